use Rattle.queue.proofs.check.FilterLaws.{pass_new, pass_seen}
use Rattle.queue.specs.bytes.OrderLaws.{same_is}
use Rattle.queue.proofs.check.scan.shared.Goals as goal

pub held_by-c-requires : goal.held_by-c-requires
held_by-c-requires c = c.requires

pub returns-then-seen : goal.returns-then-seen
returns-then-seen c = pass_seen c.args.id (same_is c.args.id) c.hash-h.ensures c.seen.ensures.is c.if-seen.true c.held_by-c.ensures

pub returns : goal.returns
returns c = pass_new c.args.id (same_is c.args.id) c.hash-h.ensures c.seen.ensures.is c.if-seen.false c.seen.ensures.some c.mark.ensures.is
