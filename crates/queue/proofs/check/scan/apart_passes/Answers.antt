use Rattle.queue.proofs.check.ReadsLaws.{both_no, both_yes, read_none}
use Rattle.std.proofs.Common.{sym, ◌∙◌}
use Rattle.queue.proofs.check.scan.apart_passes.Goals as goal

pub apart_by-requires : goal.apart_by-requires
apart_by-requires c = c.requires.0

pub returns-then-not-apart_by : goal.returns-then-not-apart_by
returns-then-not-apart_by c = both_no _ c.apart_by.ensures c.if-not-apart_by.true

pub returns-then-unread : goal.returns-then-unread
returns-then-unread c = both_yes _ c.apart_by.ensures c.if-not-apart_by.false (sym (read_none _ (c.requires.1 c.if-unread.true)))

pub reads_passes-requires : goal.reads_passes-requires
reads_passes-requires c = (c.requires.0, sym c.apart_by.ensures ∙ c.if-not-apart_by.false)

pub returns : goal.returns
returns c = both_yes _ c.apart_by.ensures c.if-not-apart_by.false c.reads_passes.ensures
