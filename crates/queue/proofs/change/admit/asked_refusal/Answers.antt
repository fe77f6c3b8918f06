use Rattle.std.specs.Prelude.{refl}
use Rattle.std.proofs.Common.{ap, ◌∙◌}
use Rattle.queue.specs.check.RulesAs.{height_due, time_due}
use Rattle.queue.proofs.change.AdmitExitLaws.{asked_0, asked_5, asked_6, asked_7, asked_8, asked_9, height_asked, time_asked}
use Rattle.queue.proofs.change.admit.asked_refusal.Goals as goal

pub returns-then-not-l-f : goal.returns-then-not-l-f
returns-then-not-l-f c = asked_5 c.args.k c.args.x c.args.id.now c.args.inputs.now c.args.outputs.now c.args.reads.now c.args.bytes.now c.args.label.now c.args.tip.now c.requires c.lists_whole-l.ensures c.flags_listed-f.ensures refl c.if-not-l-f.true

pub returns-then-over_k : goal.returns-then-over_k
returns-then-over_k c = asked_6 c.args.k c.args.x c.args.id.now c.args.inputs.now c.args.outputs.now c.args.reads.now c.args.bytes.now c.args.label.now c.args.tip.now c.requires c.lists_whole-l.ensures c.flags_listed-f.ensures refl c.if-not-l-f.false c.over_k.ensures c.if-over_k.true

pub returns-then-time_reached : goal.returns-then-time_reached
returns-then-time_reached c = asked_7 c.args.k c.args.x c.args.id.now c.args.inputs.now c.args.outputs.now c.args.reads.now c.args.bytes.now c.args.label.now c.args.tip.now c.requires c.lists_whole-l.ensures c.flags_listed-f.ensures refl c.if-not-l-f.false c.over_k.ensures c.if-over_k.false (c.time_reached.ensures ∙ ap (λ o. time_due o c.args.x.now.0) c.given_by-d.ensures ∙ time_asked c.args.x.timeflag c.args.x.time c.args.x.now.0) c.if-time_reached.true

pub returns-then-height_reached : goal.returns-then-height_reached
returns-then-height_reached c = asked_8 c.args.k c.args.x c.args.id.now c.args.inputs.now c.args.outputs.now c.args.reads.now c.args.bytes.now c.args.label.now c.args.tip.now c.requires c.lists_whole-l.ensures c.flags_listed-f.ensures refl c.if-not-l-f.false c.over_k.ensures c.if-over_k.false (c.time_reached.ensures ∙ ap (λ o. time_due o c.args.x.now.0) c.given_by-d.ensures ∙ time_asked c.args.x.timeflag c.args.x.time c.args.x.now.0) c.if-time_reached.false (c.height_reached.ensures ∙ ap (λ o. height_due o c.args.x.tipheight.0) c.given_by-h.ensures ∙ height_asked c.args.x.heightflag c.args.x.height c.args.x.tipheight.0) c.if-height_reached.true

pub returns-then-long_label : goal.returns-then-long_label
returns-then-long_label c = asked_9 c.args.k c.args.x c.args.id.now c.args.inputs.now c.args.outputs.now c.args.reads.now c.args.bytes.now c.args.label.now c.args.tip.now c.requires c.lists_whole-l.ensures c.flags_listed-f.ensures refl c.if-not-l-f.false c.over_k.ensures c.if-over_k.false (c.time_reached.ensures ∙ ap (λ o. time_due o c.args.x.now.0) c.given_by-d.ensures ∙ time_asked c.args.x.timeflag c.args.x.time c.args.x.now.0) c.if-time_reached.false (c.height_reached.ensures ∙ ap (λ o. height_due o c.args.x.tipheight.0) c.given_by-h.ensures ∙ height_asked c.args.x.heightflag c.args.x.height c.args.x.tipheight.0) c.if-height_reached.false c.long_label.ensures c.if-long_label.true

pub returns : goal.returns
returns c = asked_0 c.args.k c.args.x c.args.id.now c.args.inputs.now c.args.outputs.now c.args.reads.now c.args.bytes.now c.args.label.now c.args.tip.now c.requires c.lists_whole-l.ensures c.flags_listed-f.ensures refl c.if-not-l-f.false c.over_k.ensures c.if-over_k.false (c.time_reached.ensures ∙ ap (λ o. time_due o c.args.x.now.0) c.given_by-d.ensures ∙ time_asked c.args.x.timeflag c.args.x.time c.args.x.now.0) c.if-time_reached.false (c.height_reached.ensures ∙ ap (λ o. height_due o c.args.x.tipheight.0) c.given_by-h.ensures ∙ height_asked c.args.x.heightflag c.args.x.height c.args.x.tipheight.0) c.if-height_reached.false c.long_label.ensures c.if-long_label.false
