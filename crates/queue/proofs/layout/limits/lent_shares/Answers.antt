use Rattle.queue.proofs.layout.LimitsLaws.{shares_lent, shares_none}
use Rattle.queue.specs.bytes.ViewAs.{view}
use Rattle.std.specs.Prelude.{refl, length}
use Rattle.std.proofs.Common.{ap, ◌∙◌, arith}
use Rattle.queue.proofs.layout.limits.lent_shares.Goals as goal

pub copy_part-requires-clause-read : goal.copy_part-requires-clause-read
unfolding view
copy_part-requires-clause-read c = let k = ap length c.new.ensures in omega (arith, k, c.len.ensures.is, c.if-len-eq64.true)

pub returns-then-len-eq64 : goal.returns-then-len-eq64
returns-then-len-eq64 c = shares_lent (c.len.ensures.is ∙ ap length c.new.ensures) (rw c.new.ensures at c.len.ensures.bytes) c.if-len-eq64.true refl c.copy_part.ensures

pub returns : goal.returns
returns c = shares_none (c.len.ensures.is ∙ ap length c.new.ensures) c.if-len-eq64.false
