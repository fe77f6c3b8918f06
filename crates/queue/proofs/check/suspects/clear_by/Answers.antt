use Rattle.queue.proofs.check.ReadsLaws.{read_none}
use Rattle.queue.proofs.check.SuspectsLaws.{said, said_out}
use Rattle.queue.specs.Lists.{and_both}
use Rattle.std.proofs.Common.{sym, ◌∙◌, arith}
use Rattle.queue.proofs.check.suspects.clear_by.Goals as goal

pub apart_in-requires : goal.apart_in-requires
apart_in-requires c = (c.requires.0, c.requires.1, c.requires.2, c.requires.3)

pub returns-in_err-apart : goal.returns-in_err-apart
returns-in_err-apart c = rw c.from_residual.ensures (said_out c.in_err-apart.ensures.0.is)

pub returns-then-not-apart : goal.returns-then-not-apart
returns-then-not-apart c = said (rw (← c.in_ok-apart.ensures.0.is, c.if-not-apart.true))

pub returns-then-unread : goal.returns-then-unread
returns-then-unread c = said (sym (and_both _ _ (sym c.in_ok-apart.ensures.0.is ∙ c.if-not-apart.false) (read_none _ (c.requires.4 c.if-unread.true))))

pub reads_by-requires : goal.reads_by-requires
reads_by-requires c = (c.requires.0, c.requires.1, c.requires.2, omega (arith, c.requires.3), rw c.words.ensures.is c.words.ensures.some, sym c.in_ok-apart.ensures.0.is ∙ c.if-not-apart.false, rw c.words.ensures.is (c.in_ok-apart.ensures.1 c.if-not-apart.false))

pub returns : goal.returns
returns c = rw (← c.in_ok-apart.ensures.0.is, c.if-not-apart.false) c.reads_by.ensures
