use Rattle.queue.proofs.read.LinksLaws.{kept_free, kept_taken}
use Rattle.queue.proofs.read.links.keep_row.Goals as goal

pub returns-then-row-eq0 : goal.returns-then-row-eq0
returns-then-row-eq0 c = kept_free c.args.slots.now c.row.ensures.is c.row.ensures.some c.if-row-eq0.true c.put.ensures

pub returns : goal.returns
returns c = kept_taken c.args.slots.now c.row.ensures.is c.row.ensures.some c.if-row-eq0.false c.mark.ensures.is c.mark.ensures.some
