use Rattle.queue.proofs.check.AreaLaws.{product, ranged}
use Rattle.queue.specs.layout.FrameAs.{limits_in}
use Rattle.queue.specs.paper.Sound.{need}
use Rattle.std.specs.Prelude.{refl}
use Rattle.std.proofs.Common.{arith}
use Rattle.queue.proofs.layout.limits.Limits.need.Goals as goal

pub overflow_mul-result : goal.overflow_mul-result
overflow_mul-result c = let a = c.args.l in let g = ranged (limits_in a) c.requires in let h = product a.p a.k g.p2 g.k2 in omega (arith, g.b2, g.t2, g.k2, g.p2)

pub overflow_mul-result-2 : goal.overflow_mul-result-2
overflow_mul-result-2 c = let a = c.args.l in let g = ranged (limits_in a) c.requires in let h = product a.p a.k g.p2 g.k2 in omega (arith, g.b2, g.t2, g.k2, g.p2)

pub overflow_mul-result-3 : goal.overflow_mul-result-3
overflow_mul-result-3 c = let a = c.args.l in let g = ranged (limits_in a) c.requires in let h = product a.p a.k g.p2 g.k2 in omega (arith, g.b2, g.t2, g.k2, g.p2)

pub overflow_add-result : goal.overflow_add-result
overflow_add-result c = let a = c.args.l in let g = ranged (limits_in a) c.requires in let h = product a.p a.k g.p2 g.k2 in omega (arith, g.b2, g.t2, g.k2, g.p2)

pub overflow_mul-result-4 : goal.overflow_mul-result-4
overflow_mul-result-4 c = let a = c.args.l in let g = ranged (limits_in a) c.requires in let h = product a.p a.k g.p2 g.k2 in omega (arith, g.b2, g.t2, g.k2, g.p2)

pub overflow_add-result-2 : goal.overflow_add-result-2
overflow_add-result-2 c = let a = c.args.l in let g = ranged (limits_in a) c.requires in let h = product a.p a.k g.p2 g.k2 in omega (arith, g.b2, g.t2, g.k2, g.p2)

pub overflow_mul-result-5 : goal.overflow_mul-result-5
overflow_mul-result-5 c = let a = c.args.l in let g = ranged (limits_in a) c.requires in let h = product a.p a.k g.p2 g.k2 in omega (arith, g.b2, g.t2, g.k2, g.p2)

pub overflow_add-result-3 : goal.overflow_add-result-3
overflow_add-result-3 c = let a = c.args.l in let g = ranged (limits_in a) c.requires in let h = product a.p a.k g.p2 g.k2 in omega (arith, g.b2, g.t2, g.k2, g.p2)

pub overflow_add-result-4 : goal.overflow_add-result-4
overflow_add-result-4 c = let a = c.args.l in let g = ranged (limits_in a) c.requires in let h = product a.p a.k g.p2 g.k2 in omega (arith, g.b2, g.t2, g.k2, g.p2)

pub returns : goal.returns
unfolding need
returns c = (refl, let a = c.args.l in let g = ranged (limits_in a) c.requires in let h = product a.p a.k g.p2 g.k2 in omega (arith, g.b2, g.t2, g.k2, g.p2))
