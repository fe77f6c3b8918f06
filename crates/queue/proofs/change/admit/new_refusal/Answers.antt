use Rattle.queue.proofs.RefusalLaws.{handed, numbered}
use Rattle.queue.proofs.change.AdmitExitLaws.{free_0, free_12, free_20, free_room, ids_lent}
use Rattle.queue.proofs.change.AdmitLaws.{tally_asks}
use Rattle.std.specs.Prelude.{refl}
use Rattle.queue.proofs.change.admit.new_refusal.Goals as goal

pub room_for-requires : goal.room_for-requires
room_for-requires c = (c.requires.0, c.requires.1)

pub returns-in_err-room_for : goal.returns-in_err-room_for
returns-in_err-room_for c = rw (handed _ c.from_residual.ensures.1) (free_room c.args.s.now c.args.inputs.now c.args.reads.now c.args.caller c.args.n c.in_err-room_for.ensures (numbered _))

pub ids_clash-requires : goal.ids_clash-requires
ids_clash-requires c = let l = c.requires.2 in ((ids_lent l).0, (tally_asks c.requires.0).0, l.few, (ids_lent l).1)

pub returns-then-ids_clash : goal.returns-then-ids_clash
returns-then-ids_clash c = free_12 c.requires.0 c.requires.2 c.args.reads.now c.args.caller c.args.n c.in_ok-room_for.ensures refl c.ids_clash.ensures c.if-ids_clash.true

pub reads_cross-requires : goal.reads_cross-requires
reads_cross-requires c = (c.requires.0, c.requires.2, c.requires.3)

pub returns-then-reads_cross : goal.returns-then-reads_cross
returns-then-reads_cross c = free_20 c.requires.0 c.requires.2 c.args.reads.now c.args.caller c.args.n c.in_ok-room_for.ensures refl c.ids_clash.ensures c.if-ids_clash.false c.reads_cross.ensures c.if-reads_cross.true

pub returns : goal.returns
returns c = free_0 c.requires.0 c.requires.2 c.args.reads.now c.args.caller c.args.n c.in_ok-room_for.ensures refl c.ids_clash.ensures c.if-ids_clash.false c.reads_cross.ensures c.if-reads_cross.false
