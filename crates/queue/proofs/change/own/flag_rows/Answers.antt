use Rattle.queue.proofs.change.OwnLaws.{settled}
use Rattle.queue.proofs.change.own.flag_rows.Goals as goal

pub mark_all-requires : goal.mark_all-requires
mark_all-requires c = (c.requires.0, c.requires.1, c.in_order-o.ensures, c.requires.2)

pub returns : goal.returns
returns c = settled c.args.s.now _ _ _ c.order_rows.ensures.same c.mark_all.ensures
