use Rattle.queue.proofs.check.FilterLaws.{new_of_law, pass_new}
use Rattle.queue.specs.bytes.ReaderLaws.{false_true}
use Rattle.std.specs.Prelude.{refl}
use Rattle.std.proofs.Common.{eqb-true}
use Rattle.queue.proofs.check.scan.new_number.Goals as goal

pub returns-then-seen : goal.returns-then-seen
returns-then-seen c = (refl, λ u. false_true u)

pub returns : goal.returns
returns c = let g = pass_new c.args.n.0 (eqb-true c.args.n.0) c.hash_number-h.ensures c.seen.ensures.is c.if-seen.false c.seen.ensures.some c.mark.ensures.is in (g.size, λ _. new_of_law g)
