use Rattle.std.specs.Prelude.{refl}
use Rattle.image.proofs.ImageLaws.{cond_most}
use Rattle.queue.specs.paper.Kinds.{has_callers}
use Rattle.std.proofs.Common.{arith}
use Rattle.image.proofs.frames.priority_from.Goals as goal

pub overflow_add-result : goal.overflow_add-result
overflow_add-result c = omega (arith, c.caller_end-a.ensures, cond_most (has_callers c.args.kind) 34 33 (omega arith))

pub overflow_add-result-2 : goal.overflow_add-result-2
overflow_add-result-2 c = omega (arith, c.caller_end-a.ensures, cond_most (has_callers c.args.kind) 34 33 (omega arith), c.when-b.ensures, cond_most c.is_some.result 8 0 (omega arith))

pub overflow_add-result-3 : goal.overflow_add-result-3
overflow_add-result-3 c = omega (arith, c.caller_end-a.ensures, cond_most (has_callers c.args.kind) 34 33 (omega arith), c.when-b.ensures, cond_most c.is_some.result 8 0 (omega arith), c.when-c.ensures, cond_most c.is_some-2.result 4 0 (omega arith))

pub returns : goal.returns
returns c = rw (c.caller_end-a.ensures, c.when-b.ensures, c.when-c.ensures, c.is_some.ensures, c.is_some-2.ensures) refl
