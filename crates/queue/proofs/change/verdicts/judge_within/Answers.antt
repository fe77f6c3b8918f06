use Rattle.queue.specs.bytes.ReaderLaws.{false_true}
use Rattle.queue.proofs.change.verdicts.judge_within.Goals as goal

pub note_flags-noted-requires : goal.note_flags-noted-requires
note_flags-noted-requires g c = (c.requires.asked.0, c.requires.asked.2, c.requires.asked.6, c.requires.asked.7)

pub judge_all-requires : goal.judge_all-requires
judge_all-requires g c = (c.requires.asked.0, c.requires.asked.1, c.requires.asked.2, c.requires.asked.3, c.requires.asked.4, λ e. false_true e)

pub returns-then-not-noted : goal.returns-then-not-noted
returns-then-not-noted g c = c.judge_all.ensures

pub own_flags-quick-requires : goal.own_flags-quick-requires
own_flags-quick-requires g c = let k = c.if-not-noted.false in (c.requires.asked.0, c.requires.asked.5 (c.note_flags-noted.ensures.0 k), (c.note_flags-noted.ensures.1 k).room, c.requires.asked.6 (c.note_flags-noted.ensures.0 k), (c.note_flags-noted.ensures.1 k).some)

pub judge_all-requires-2 : goal.judge_all-requires-2
judge_all-requires-2 g c = (c.requires.asked.0, c.requires.asked.1, c.requires.asked.2, c.requires.asked.3, c.requires.asked.4, λ e. c.own_flags-quick.ensures e _ (c.note_flags-noted.ensures.1 c.if-not-noted.false))

pub returns : goal.returns
returns g c = c.judge_all-2.ensures
