use Rattle.queue.proofs.check.SuspectsLaws.{said_any}
use Rattle.std.proofs.Common.{zero-lt-suc}
use Rattle.queue.proofs.check.suspects.apart_few.Goals as goal

pub clear_by-requires : goal.clear_by-requires
clear_by-requires c = (c.requires.0, c.if-s-lt4294967296.true, c.if-recs-lt4294967296.true, zero-lt-suc _, c.requires.1)

pub returns-then-recs-lt4294967296 : goal.returns-then-recs-lt4294967296
returns-then-recs-lt4294967296 c = said_any c.clear_by.ensures
