use Rattle.queue.proofs.change.OwnFlagLaws.{bits_fit}
use Rattle.queue.proofs.change.OwnLaws.{owned_by}
use Rattle.queue.proofs.change.TouchLaws.{fine_both, fine_not}
use Rattle.queue.specs.bytes.ViewAs.{view}
use Rattle.queue.specs.change.ReopenAs.{ids_at}
use Rattle.queue.specs.change.TouchAs.{own_ids}
use Rattle.queue.specs.layout.FormsCodec.{form_c}
use Rattle.queue.specs.layout.FrameCodec.{rec_c}
use Rattle.queue.specs.layout.RecordsAs.{recs_at}
use Rattle.std.specs.Prelude.{false}
use Rattle.queue.proofs.change.touch.all_owned.Goals as goal

pub all_set-requires : goal.all_set-requires
all_set-requires c = (bits_fit c.args.flags.now (c.requires.3.room c.if-quick.true), c.requires.3.small)

pub returns-then-quick : goal.returns-then-quick
returns-then-quick c = owned_by _ _ c.requires.3 c.if-quick.true c.all_set.ensures

pub fine-requires : goal.fine-requires
fine-requires c = rw c.new-frame.ensures (c.requires.0, c.requires.1, c.requires.2.1.0.ins_in, c.requires.2.1.0.ins_all)

pub returns-then-not-fine : goal.returns-then-not-fine
returns-then-not-fine c = fine_not (own_ids (ids_at c.args.ids.now c.args.m) (recs_at (form_c false rec_c) c.args.s.now c.args.recs)) (view false c.args.s.now c.args.base) c.args.x (rw c.new-frame.ensures at c.fine.ensures) c.if-not-fine.true

pub fine-requires-2 : goal.fine-requires-2
fine-requires-2 c = rw c.new-frame.ensures (c.requires.0, c.requires.1, c.requires.2.1.0.reads_in, c.requires.2.1.0.reads_all)

pub returns : goal.returns
returns c = fine_both (own_ids (ids_at c.args.ids.now c.args.m) (recs_at (form_c false rec_c) c.args.s.now c.args.recs)) (view false c.args.s.now c.args.base) c.args.x (rw c.new-frame.ensures at c.fine.ensures) c.if-not-fine.false (rw c.new-frame.ensures at c.fine-2.ensures)
