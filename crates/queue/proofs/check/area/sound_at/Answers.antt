use Rattle.queue.proofs.check.AreaLaws.{few_tombs, held_few, list_length, ranged, sound_in, sound_many, sound_out, sound_wrong, tombs_are}
use Rattle.queue.proofs.check.ReadsLaws.{read_none}
use Rattle.queue.specs.Lists.{and_both, and_true}
use Rattle.queue.specs.layout.FormsCodec.{rec_in_value}
use Rattle.queue.specs.layout.FrameAs.{limits_in}
use Rattle.queue.specs.paper.Sound.{in_range}
use Rattle.std.specs.Prelude.{refl}
use Rattle.std.proofs.Common.{sym, ◌∙◌}
use Rattle.queue.proofs.check.area.sound_at.Goals as goal

pub right-requires : goal.right-requires
right-requires c = c.requires.1

pub returns-then-not-right : goal.returns-then-not-right
returns-then-not-right c = sound_out _ _ _ _ _ c.requires.2 (list_length (rec_in_value c.args.form) _ _ _ c.requires.0.1) (sym c.right.ensures ∙ c.if-not-right.true)

pub counts_ok-requires : goal.counts_ok-requires
counts_ok-requires c = let g = ranged _ (and_true (in_range (limits_in c.args.x.head.limits)) _ (sym c.right.ensures ∙ c.if-not-right.false)).0 in (g.p2, g.b2, g.t2, held_few (limits_in c.args.x.head.limits) _ _ _ _ c.requires.2 (list_length (rec_in_value c.args.form) _ _ _ c.requires.0.1))

pub returns-then-not-counts_ok : goal.returns-then-not-counts_ok
returns-then-not-counts_ok c = sound_many _ _ _ _ _ c.requires.2 (list_length (rec_in_value c.args.form) _ _ _ c.requires.0.1) (sym c.right.ensures ∙ c.if-not-right.false) c.counts_ok.ensures c.if-not-counts_ok.true

pub returns-then-not-a : goal.returns-then-not-a
returns-then-not-a c = sound_wrong _ _ _ _ _ c.requires.2 (list_length (rec_in_value c.args.form) _ _ _ c.requires.0.1) (sym c.right.ensures ∙ c.if-not-right.false) c.counts_ok.ensures c.if-not-counts_ok.false refl c.if-not-a.true

pub returns-then-a : goal.returns-then-a
returns-then-a c = let u = and_true _ _ (c.if-a.true) in let v = c.requires.2.clear u.0 in sound_in _ _ _ _ _ c.requires.2 (list_length (rec_in_value c.args.form) _ _ _ c.requires.0.1) (sym c.right.ensures ∙ c.if-not-right.false) c.counts_ok.ensures c.if-not-counts_ok.false refl c.if-not-a.false (sym v.1) (sym (and_both _ _ v.0 (read_none _ (sym c.requires.2.unread ∙ u.1)))) refl

pub overflow_sub-h : goal.overflow_sub-h
overflow_sub-h c = held_few (limits_in c.args.x.head.limits) _ _ _ _ c.requires.2 (list_length (rec_in_value c.args.form) _ _ _ c.requires.0.1)

pub distinct-d-requires : goal.distinct-d-requires
distinct-d-requires c = (c.requires.0, tombs_are (limits_in c.args.x.head.limits) _ _ _ _ c.requires.2 (list_length (rec_in_value c.args.form) _ _ _ c.requires.0.1), few_tombs (limits_in c.args.x.head.limits) _ _ _ _ c.requires.2 (list_length (rec_in_value c.args.form) _ _ _ c.requires.0.1) (sym c.right.ensures ∙ c.if-not-right.false) c.counts_ok.ensures c.if-not-counts_ok.false)

pub apart-o-requires : goal.apart-o-requires
apart-o-requires c = (c.requires.0, λ e. sym c.requires.2.unread ∙ e)

pub returns : goal.returns
returns c = sound_in _ _ _ _ _ c.requires.2 (list_length (rec_in_value c.args.form) _ _ _ c.requires.0.1) (sym c.right.ensures ∙ c.if-not-right.false) c.counts_ok.ensures c.if-not-counts_ok.false refl c.if-not-a.false c.distinct-d.ensures c.apart-o.ensures refl
