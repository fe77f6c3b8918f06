use Rattle.std.proofs.Common.{arith}
use Rattle.queue.proofs.read.LinksLaws.{id_seen, id_unseen}
use Rattle.queue.proofs.read.links.link_id.Goals as goal

pub link_row-requires : goal.link_row-requires
link_row-requires c = (c.requires.3, c.requires.4)

pub returns-then-not-seen : goal.returns-then-not-seen
returns-then-not-seen c = id_unseen c.args.s.now c.args.y c.args.h c.args.slots.now c.args.t.now c.args.v.now c.requires.0 c.row-x.ensures.some c.args.l.row c.row-x.ensures.is c.is_row_of-found.ensures c.link_row.ensures c.seen.ensures.is c.if-not-seen.true

pub link_rows-requires : goal.link_rows-requires
link_rows-requires c = (c.requires.2, c.requires.1, c.requires.3, omega (arith, c.requires.4, c.link_row.ensures.size))

pub returns : goal.returns
returns c = id_seen c.args.s.now c.args.y c.args.h c.args.slots.now c.args.t.now c.args.v.now c.requires.0 c.row-x.ensures.some c.args.l.row c.row-x.ensures.is c.is_row_of-found.ensures c.link_row.ensures c.link_rows.ensures
