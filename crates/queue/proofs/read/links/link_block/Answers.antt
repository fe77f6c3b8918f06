use Rattle.queue.proofs.read.LinksLaws.{linked_thin}
use Rattle.std.proofs.Common.{sym, arith, length-take-le}
use Rattle.queue.proofs.read.links.link_block.Goals as goal

pub slice_bounds-link_ordered-end-2 : goal.slice_bounds-link_ordered-end-2
slice_bounds-link_ordered-end-2 c = sym (length-take-le c.thin-n.result _ (omega (arith, c.thin-n.ensures.1)))

pub link_ordered-requires : goal.link_ordered-requires
link_ordered-requires c = (c.requires.0, c.requires.1, c.requires.2, c.requires.3, c.requires.4)

pub returns : goal.returns
returns c = linked_thin c.args.at.now c.order_rows.ensures.same c.thin-n.ensures.0 c.link_ordered.ensures
