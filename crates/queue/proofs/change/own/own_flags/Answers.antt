use Rattle.queue.proofs.change.OwnLaws.{owned_all, owned_in, owned_none}
use Rattle.queue.proofs.read.LinksBitLaws.{pos_of}
use Rattle.queue.specs.bytes.ReaderLaws.{false_true}
use Rattle.queue.specs.layout.FormsCodec.{form_c}
use Rattle.queue.specs.layout.FrameCodec.{rec_c}
use Rattle.queue.specs.layout.RecordsAs.{recs_at}
use Rattle.std.specs.Prelude.{false}
use Rattle.std.proofs.Common.{sym, arith, length-take-le}
use Rattle.queue.proofs.change.own.own_flags.Goals as goal

pub returns-then-v-eq0 : goal.returns-then-v-eq0
returns-then-v-eq0 c = λ e. false_true e

pub all_set-requires : goal.all_set-requires
all_set-requires c = (omega (arith, c.requires.2.0, c.requires.3), omega (arith, c.requires.2.1, c.requires.3))

pub returns-then-all_set : goal.returns-then-all_set
returns-then-all_set c = λ _ own h. owned_all c.args.s.now _ c.args.t.now (recs_at (form_c false rec_c) c.args.s.now c.args.recs) own h c.requires.3 c.all_set.ensures c.if-all_set.true

pub add_queued-k-requires : goal.add_queued-k-requires
add_queued-k-requires c = (c.requires.0, c.requires.1, c.requires.2, pos_of _ c.if-v-eq0.false, c.requires.4)

pub returns-then-k-eq0 : goal.returns-then-k-eq0
returns-then-k-eq0 c = λ _ own h. owned_none c.args.s.now _ c.args.t.now (recs_at (form_c false rec_c) c.args.s.now c.args.recs) own h _ c.if-k-eq0.true c.add_queued-k.ensures.0

pub slice_bounds-flag_rows-end : goal.slice_bounds-flag_rows-end
slice_bounds-flag_rows-end c = omega (arith, c.add_queued-k.ensures.1)

pub slice_bounds-flag_rows-end-2 : goal.slice_bounds-flag_rows-end-2
slice_bounds-flag_rows-end-2 c = sym (length-take-le c.add_queued-k.result _ (omega (arith, c.add_queued-k.ensures.1)))

pub flag_rows-requires : goal.flag_rows-requires
flag_rows-requires c = (c.requires.0, c.requires.1, (omega (arith, c.requires.2.0), c.requires.2.1))

pub returns : goal.returns
returns c = λ _ own h. owned_in c.args.s.now _ c.args.t.now (recs_at (form_c false rec_c) c.args.s.now c.args.recs) own h c.add_queued-k.ensures.0 c.flag_rows.ensures
