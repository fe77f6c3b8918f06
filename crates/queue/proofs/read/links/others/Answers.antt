use Rattle.std.specs.Prelude.{◌%◌, refl}
use Rattle.std.proofs.Common.{arith, pow_pos}
use Rattle.queue.proofs.read.LinksNameLaws.{others_but, others_far, others_none, others_sub}
use Rattle.queue.proofs.read.links.others.Goals as goal

pub returns-then-j-n : goal.returns-then-j-n
returns-then-j-n c = others_far c.args.n c.args.j refl c.if-j-n.true

pub nonzero_div-m : goal.nonzero_div-m
nonzero_div-m c = omega (arith, pow_pos (c.args.j % 16), c.bit-b.ensures)

pub returns-then-m-b-eq0 : goal.returns-then-m-b-eq0
returns-then-m-b-eq0 c = others_none c.args.n c.args.j refl c.bit-b.ensures c.if-m-b-eq0.true

pub overflow_sub-result : goal.overflow_sub-result
overflow_sub-result c = others_sub (c.args.n % 65536) c.bit-b.result c.if-m-b-eq0.false

pub returns : goal.returns
returns c = others_but c.args.n c.args.j refl c.bit-b.ensures c.if-j-n.false c.if-m-b-eq0.false refl
