use Rattle.image.proofs.ImageLaws.{need_1, need_100, need_alone}
use Rattle.std.proofs.Common.{◌∙◌, sym}
use Rattle.image.proofs.area_need.Goals as goal

pub returns-then-not-check : goal.returns-then-not-check
returns-then-not-check c = λ old. need_1 _ old (sym (need_alone c.args.p c.args.b c.args.t c.args.k _).0 ∙ sym c.check.ensures ∙ c.if-not-check.true)

pub need-requires : goal.need-requires
need-requires c = sym c.check.ensures ∙ c.if-not-check.false

pub returns : goal.returns
returns c = λ old. need_100 _ old (sym (need_alone c.args.p c.args.b c.args.t c.args.k _).0 ∙ sym c.check.ensures ∙ c.if-not-check.false) (c.need.ensures.0 ∙ (need_alone c.args.p c.args.b c.args.t c.args.k _).1)
