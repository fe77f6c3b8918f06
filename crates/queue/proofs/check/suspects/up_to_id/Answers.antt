use Rattle.queue.proofs.check.SuspectsRowLaws.{cmp_by, up_at, up_short}
use Rattle.queue.specs.bytes.ViewAs.{shown_raw}
use Rattle.std.specs.Prelude.{length, true}
use Rattle.std.proofs.Common.{ap, arith, refl, ◌∙◌}
use Rattle.queue.proofs.check.suspects.up_to_id.Goals as goal

pub returns-then-len-lt32 : goal.returns-then-len-lt32
returns-then-len-lt32 c = λ e. up_short true c.args.s.now c.args.x c.args.y e (let k = c.len.ensures.is ∙ ap length c.new-a.ensures in omega (arith, k, c.if-len-lt32.true)) (omega (arith, c.well_formed))

pub compare_at-requires-clause-second : goal.compare_at-requires-clause-second
compare_at-requires-clause-second c = let k = ap length (c.new.ensures ∙ shown_raw c.args.id.now refl) in omega (arith, k, c.well_formed)

pub returns-in-Less : goal.returns-in-Less
returns-in-Less c = λ e. up_at true c.args.s.now c.args.x c.args.y e (cmp_by true c.args.s.now c.args.x c.new-a.ensures (let k = c.len.ensures.is in omega (arith, k, c.if-len-lt32.false)) (c.new.ensures ∙ shown_raw c.args.id.now refl) (omega (arith, c.well_formed)) (rw c.in-Less.is at c.compare_at.ensures))

pub returns-in-Equal : goal.returns-in-Equal
returns-in-Equal c = λ e. up_at true c.args.s.now c.args.x c.args.y e (cmp_by true c.args.s.now c.args.x c.new-a.ensures (let k = c.len.ensures.is in omega (arith, k, c.if-len-lt32.false)) (c.new.ensures ∙ shown_raw c.args.id.now refl) (omega (arith, c.well_formed)) (rw c.in-Equal.is at c.compare_at.ensures))

pub returns-in-Greater : goal.returns-in-Greater
returns-in-Greater c = λ e. up_at true c.args.s.now c.args.x c.args.y e (cmp_by true c.args.s.now c.args.x c.new-a.ensures (let k = c.len.ensures.is in omega (arith, k, c.if-len-lt32.false)) (c.new.ensures ∙ shown_raw c.args.id.now refl) (omega (arith, c.well_formed)) (rw c.in-Greater.is at c.compare_at.ensures))
