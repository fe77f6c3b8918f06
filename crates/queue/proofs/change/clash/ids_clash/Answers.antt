use Rattle.std.proofs.Common.{sym, arith, length-take-le}
use Rattle.queue.proofs.change.clash.ids_clash.Goals as goal

pub place_rows-k-requires : goal.place_rows-k-requires
place_rows-k-requires c = (c.requires.0, c.requires.2, c.requires.3)

pub slice_bounds-clash_by-end : goal.slice_bounds-clash_by-end
slice_bounds-clash_by-end c = sym (length-take-le _ _ (omega (arith, c.place_rows-k.ensures.1, c.place_rows-k.ensures.2)))

pub clash_by-requires : goal.clash_by-requires
clash_by-requires c = (c.requires.1, c.requires.0, c.place_rows-k.ensures.0)
