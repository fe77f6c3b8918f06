use Rattle.std.specs.Prelude.{◌+◌, ◌/◌, false, length, refl}
use Rattle.std.proofs.Common.{arith}
use Rattle.queue.proofs.change.OwnFlagLaws.{cleared_flags, noted_room, words_room}
use Rattle.queue.proofs.change.OwnLaws.{noted}
use Rattle.queue.specs.bytes.ReaderLaws.{false_true}
use Rattle.queue.specs.change.OwnAs.{wanted_of}
use Rattle.queue.specs.change.ReopenAs.{ids_at}
use Rattle.queue.specs.layout.FormsCodec.{form_c}
use Rattle.queue.specs.layout.FrameCodec.{rec_c}
use Rattle.queue.specs.layout.RecordsAs.{recs_at}
use Rattle.queue.proofs.change.own.note_flags.Goals as goal

pub overflow_add-words : goal.overflow_add-words
overflow_add-words c = omega (arith, c.requires.3)

pub returns-then-not-go-words : goal.returns-then-not-go-words
returns-then-not-go-words c = (λ e. false_true e, λ e. false_true e)

pub note_all-requires : goal.note_all-requires
note_all-requires c = let u = noted_room c.args.go ((c.args.total + 63) / 64) (length c.args.flags.now) (length c.args.t.now) refl c.if-not-go-words.false in let r = words_room refl u.1 in let e = c.requires.2 u.0 in (c.requires.0, c.requires.1, (omega arith, omega (arith, c.requires.3)), u.2)

pub returns : goal.returns
returns c = let u = noted_room c.args.go ((c.args.total + 63) / 64) (length c.args.flags.now) (length c.args.t.now) refl c.if-not-go-words.false in let r = words_room refl u.1 in let e = c.requires.2 u.0 in (λ _. u.0, λ _. noted (ids_at c.args.ids.now c.args.m) (wanted_of (recs_at (form_c false rec_c) c.args.s.now c.args.recs)) _ _ c.args.t.now _ (omega arith, omega (arith, c.requires.3)) u.2 (cleared_flags (wanted_of (recs_at (form_c false rec_c) c.args.s.now c.args.recs)) _ (omega arith) (c.clear.ensures.yes refl)) c.note_all.ensures.0 c.note_all.ensures.1)
