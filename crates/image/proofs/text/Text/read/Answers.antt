use Rattle.image.proofs.ImageLaws.{kind_is, text_good, text_long, text_none, text_other}
use Rattle.queue.proofs.check.AreaLaws.{recs_stand, sound_range}
use Rattle.std.proofs.Common.{◌∙◌, sym}
use Rattle.std.specs.Prelude.{refl}
use Rattle.image.proofs.text.Text.read.Goals as goal

pub returns-then-not-is_known : goal.returns-then-not-is_known
returns-then-not-is_known c = record { refusal = refl; is = text_other _ _ (kind_is c.args.s.now c.new.ensures c.kind_of.ensures) (sym c.is_known.ensures ∙ c.if-not-is_known.true) }

pub returns-in_default : goal.returns-in_default
returns-in_default c = record { refusal = refl; is = text_none _ (kind_is c.args.s.now c.new.ensures c.kind_of.ensures) (sym c.is_known.ensures ∙ c.if-not-is_known.false) c.in_default.ensures }

pub returns-then-x-s : goal.returns-then-x-s
returns-then-x-s c = record { refusal = refl; is = text_long _ (kind_is c.args.s.now c.new.ensures c.kind_of.ensures) (sym c.is_known.ensures ∙ c.if-not-is_known.false) c.in-Some.ensures c.if-x-s.true }

pub sound_at-requires : goal.sound_at-requires
sound_at-requires c = let w = c.in-Some.ensures.fact in (recs_stand w, w.head.fit.long, w.sums)

pub need-need-requires : goal.need-need-requires
need-need-requires c = sound_range _ _ _ (sym c.sound_at.ensures ∙ c.if-not-sound_at.false)

pub returns : goal.returns
returns c = text_good _ (kind_is c.args.s.now c.new.ensures c.kind_of.ensures) (sym c.is_known.ensures ∙ c.if-not-is_known.false) c.in-Some.ensures c.if-x-s.false c.sound_at.ensures c.if-not-sound_at.false c.need-need.ensures.0 c.need-need.ensures.1 refl refl refl
