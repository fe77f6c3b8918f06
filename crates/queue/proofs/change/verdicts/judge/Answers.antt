use Rattle.queue.specs.Lists.{and_true}
use Rattle.queue.specs.bytes.ReaderLaws.{false_true}
use Rattle.std.specs.Prelude.{length}
use Rattle.std.proofs.Common.{arith, ltb-true}
use Rattle.queue.proofs.change.verdicts.judge.Goals as goal

pub count_wanted-total-requires : goal.count_wanted-total-requires
count_wanted-total-requires c = (c.requires.0, c.requires.4)

pub judge_within-requires-clause-asked : goal.judge_within-requires-clause-asked
judge_within-requires-clause-asked c = (c.requires.0, c.requires.1, c.requires.2, c.requires.3, c.requires.4, λ e. false_true e, λ e. false_true e, omega arith)

pub returns-then-not-b-s : goal.returns-then-not-b-s
returns-then-not-b-s c = c.judge_within.ensures

pub judge_within-requires-then-total-le8192-clause-asked : goal.judge_within-requires-then-total-le8192-clause-asked
judge_within-requires-then-total-le8192-clause-asked c = (c.requires.0, c.requires.1, c.requires.2, c.requires.3, c.requires.4, λ _. ltb-true (length c.args.s.now) 4294967296 (and_true c.args.b.caught _ c.if-not-b-s.false).1, λ _. c.count_wanted-total.ensures.0, omega (arith, c.if-total-le8192.true))

pub returns-then-total-le8192 : goal.returns-then-total-le8192
returns-then-total-le8192 c = c.judge_within-then-total-le8192.ensures

pub judge_within-requires-then-total-le524288-clause-asked : goal.judge_within-requires-then-total-le524288-clause-asked
judge_within-requires-then-total-le524288-clause-asked c = (c.requires.0, c.requires.1, c.requires.2, c.requires.3, c.requires.4, λ _. ltb-true (length c.args.s.now) 4294967296 (and_true c.args.b.caught _ c.if-not-b-s.false).1, λ _. c.count_wanted-total.ensures.0, c.if-total-le524288.true)

pub returns-then-total-le524288 : goal.returns-then-total-le524288
returns-then-total-le524288 c = c.judge_within-then-total-le524288.ensures

pub judge_within-requires-2-clause-asked : goal.judge_within-requires-2-clause-asked
judge_within-requires-2-clause-asked c = (c.requires.0, c.requires.1, c.requires.2, c.requires.3, c.requires.4, λ e. false_true e, λ e. false_true e, omega arith)

pub returns : goal.returns
returns c = c.judge_within-2.ensures
