use Rattle.std.specs.Prelude.{refl}
use Rattle.std.proofs.Common.{arith}
use Rattle.queue.proofs.check.SuspectsLaws.{id_bytes, noting, noting_end, noting_go, noting_own, noting_stop, noting_turn}
use Rattle.queue.proofs.layout.TurnLaws.{id_fits}
use Rattle.queue.proofs.check.suspects.note_all.Goals as goal

pub loop-left-init : goal.loop-left-init
loop-left-init c = (noting c.args.form.hex _ _ _ _ _ _ _ _ c.requires.6 c.requires.7 c.requires.8, c.requires.3, refl)

pub note-requires : goal.note-requires
note-requires c = let t = id_bytes (noting_turn c.loop-left.invariant.0 c.loop-left-test.true (rw c.new-frame.ensures at c.id-id.ensures.found)) in (c.requires.0, c.requires.1, c.requires.2, omega (arith, c.loop-left.invariant.1, c.loop-left.invariant.2), omega (arith, c.loop-left.invariant.2, c.requires.4), c.requires.5, t.1, t.0, c.loop-left.invariant.0.held, noting_own c.loop-left.invariant.0 c.loop-left-test.true (rw c.new-frame.ensures at c.id-id.ensures.found) c.requires.9)

pub returns-in_err-len : goal.returns-in_err-len
returns-in_err-len c = rw c.from_residual.ensures (noting_stop c.loop-left.invariant.0 c.in_err-len.ensures)

pub loop-left-preserved : goal.loop-left-preserved
loop-left-preserved c = (noting_go c.loop-left.invariant.0 c.loop-left-test.true (rw c.new-frame.ensures at c.id-id.ensures.found) c.in_ok-len.ensures.0, omega (arith, c.in_ok-len.ensures.1, c.loop-left.invariant.2), omega (arith, c.loop-left.invariant.2))

pub returns : goal.returns
returns c = (noting_end c.loop-left.invariant.0 (omega arith), c.loop-left.invariant.1)

pub id-id-requires : goal.id-id-requires
id-id-requires c = rw c.new-frame.ensures (id_fits _ c.loop-left.invariant.0.within c.loop-left.invariant.0.whole c.loop-left-test.true)
