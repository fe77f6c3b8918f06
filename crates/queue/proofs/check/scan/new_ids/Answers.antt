use Rattle.queue.proofs.check.FilterLaws.{new_of_law, pass_new, passing, passing_end, passing_go}
use Rattle.queue.specs.bytes.OrderLaws.{same_is}
use Rattle.queue.specs.bytes.ReaderLaws.{false_true}
use Rattle.std.specs.Prelude.{refl}
use Rattle.std.proofs.Common.{arith}
use Rattle.queue.proofs.layout.TurnLaws.{id_fits}
use Rattle.queue.proofs.check.scan.new_ids.Goals as goal

pub loop-left-init : goal.loop-left-init
loop-left-init c = passing _ _ _ _ _ c.requires.0 c.requires.1

pub returns-then-seen : goal.returns-then-seen
returns-then-seen c = (c.loop-left.invariant.size, λ u. false_true u)

pub loop-left-preserved : goal.loop-left-preserved
loop-left-preserved c = passing_go c.loop-left.invariant c.loop-left-test.true c.id-id.ensures.found (pass_new _ (same_is _) c.hash-h.ensures c.seen.ensures.is c.if-seen.false c.seen.ensures.some c.mark.ensures.is) refl

pub returns : goal.returns
returns c = (c.loop-left.invariant.size, λ _. new_of_law (passing_end c.loop-left.invariant (omega arith)))

pub id-id-requires : goal.id-id-requires
id-id-requires c = id_fits _ c.loop-left.invariant.within c.loop-left.invariant.whole c.loop-left-test.true
