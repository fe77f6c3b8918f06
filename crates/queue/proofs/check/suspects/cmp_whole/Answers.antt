use Rattle.queue.proofs.check.SuspectsRowLaws.{cmp_both, cmp_first, cmp_last, cmp_none}
use Rattle.std.specs.Prelude.{length}
use Rattle.std.proofs.Common.{ap, ◌∙◌}
use Rattle.queue.proofs.check.suspects.cmp_whole.Goals as goal

pub returns-then-len-lt32-2 : goal.returns-then-len-lt32-2
returns-then-len-lt32-2 c = cmp_none c.args.hex c.args.s.now c.args.x c.args.y (c.len.ensures.is ∙ ap length c.new-a.ensures) (c.len-then-len-lt32.ensures.is ∙ ap length c.new-b.ensures) c.if-len-lt32.true c.if-len-lt32-2.true

pub returns-then-len-lt32 : goal.returns-then-len-lt32
returns-then-len-lt32 c = cmp_first c.args.hex c.args.s.now c.args.x c.args.y (c.len.ensures.is ∙ ap length c.new-a.ensures) (c.len-then-len-lt32.ensures.is ∙ ap length c.new-b.ensures) c.if-len-lt32.true c.if-len-lt32-2.false

pub returns-then-len-lt32-3 : goal.returns-then-len-lt32-3
returns-then-len-lt32-3 c = cmp_last c.args.hex c.args.s.now c.args.x c.args.y (c.len.ensures.is ∙ ap length c.new-a.ensures) (c.len-2.ensures.is ∙ ap length c.new-b.ensures) c.if-len-lt32.false c.if-len-lt32-3.true

pub returns : goal.returns
returns c = cmp_both c.args.hex c.args.s.now c.args.x c.args.y (c.len.ensures.is ∙ ap length c.new-a.ensures) (c.len-2.ensures.is ∙ ap length c.new-b.ensures) c.if-len-lt32.false c.if-len-lt32-3.false (rw (c.new-a.ensures, c.new-b.ensures) at c.compare_at.ensures)
