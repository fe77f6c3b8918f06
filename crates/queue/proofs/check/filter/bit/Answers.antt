use Rattle.std.proofs.Common.{◌∙◌, one-mul, arith, shl_exact}
use Rattle.queue.proofs.check.filter.bit.Goals as goal

pub returns : goal.returns
returns c = shl_exact 1 _ 64 (omega arith) (omega arith) ∙ one-mul _
