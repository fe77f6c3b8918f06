use Rattle.std.specs.Prelude.{◌≡◌, ◌+◌, ◌-◌, length}
use Rattle.queue.proofs.read.FeesSearchLaws.{room_end, room_out, room_start, room_turn}
use Rattle.queue.proofs.read.FeesWalkLaws.{fee_left, many_fees}
use Rattle.queue.specs.read.FeesAs.{fees_of}
use Rattle.std.proofs.Common.{arith}
use Rattle.queue.proofs.read.fees.fees_fit.Goals as goal

pub loop-c-init : goal.loop-c-init
loop-c-init c = let d : length c.args.candidates.now - 0 ≡ length (fees_of c.args.candidates.now) = omega (arith, many_fees c.args.candidates.now) in rw d (room_start (fees_of c.args.candidates.now))

pub returns-then-room-c : goal.returns-then-room-c
returns-then-room-c c = room_out (fees_of c.args.candidates.now) c.loop-c.room (length c.args.candidates.now - c.loop-c.c-index) (omega arith) (omega (arith, fee_left c.args.candidates.now c.loop-c.c-index (omega arith), c.if-room-c.true)) c.loop-c.invariant

pub loop-c-preserved : goal.loop-c-preserved
loop-c-preserved c =
    let e : length c.args.candidates.now - (c.loop-c.c-index + 1) ≡ length c.args.candidates.now - c.loop-c.c-index - 1 = omega arith in
    let f = fee_left c.args.candidates.now c.loop-c.c-index (omega arith) in
    rw (e, f) (room_turn (fees_of c.args.candidates.now) c.loop-c.room (length c.args.candidates.now - c.loop-c.c-index) (omega arith) (omega (arith, f, c.if-room-c.false)) c.loop-c.invariant)

pub returns : goal.returns
returns c = room_end (fees_of c.args.candidates.now) c.loop-c.room _ (omega (arith, c.loop-c-test.false)) c.loop-c.invariant
