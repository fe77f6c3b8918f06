use Rattle.std.specs.Prelude.{is_some, ◌+◌, ℕ}
use Rattle.std.proofs.Common.{ap, arith}
use Rattle.image.proofs.ImageLaws.{cond_most}
use Rattle.image.proofs.back.cut_at.Goals as goal

pub overflow_add-f : goal.overflow_add-f
overflow_add-f c = omega (arith, c.requires.small)

pub overflow_sub-e : goal.overflow_sub-e
overflow_sub-e c = omega (arith, c.when.ensures, c.requires.room)

pub overflow_sub-u : goal.overflow_sub-u
overflow_sub-u c = omega (arith, c.when.ensures, c.when-2.ensures, c.requires.room)

pub overflow_add-result : goal.overflow_add-result
overflow_add-result c = omega (arith, c.priority_from-p.ensures, cond_most (is_some c.args.x.facts.due) 8 0 (omega arith), cond_most (is_some c.args.x.facts.due_height) 4 0 (omega arith))

pub returns : goal.returns
returns c = record { low = ap (λ (n : ℕ). n + 4) c.priority_from-p.ensures; reads = omega (arith, c.when.ensures, c.when-2.ensures, c.requires.room); signed = omega (arith, c.when.ensures, c.requires.room) }
