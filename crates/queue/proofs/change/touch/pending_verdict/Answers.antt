use Rattle.std.specs.Prelude.{refl}
use Rattle.queue.proofs.change.TouchLaws.{judge_0, judge_0', judge_2, judge_3}
use Rattle.queue.proofs.change.touch.pending_verdict.Goals as goal

pub returns-then-f : goal.returns-then-f
returns-then-f c = judge_0 c.args.f c.if-fine.true refl c.if-f.true

pub returns-then-fine : goal.returns-then-fine
returns-then-fine c = judge_2 c.args.f c.if-fine.true refl c.if-f.false

pub returns-then-f-2 : goal.returns-then-f-2
returns-then-f-2 c = judge_0' c.args.f c.if-fine.false refl c.if-f-2.true

pub returns : goal.returns
returns c = judge_3 c.args.f c.if-fine.false refl c.if-f-2.false
