use Rattle.queue.proofs.read.ParentsLaws.{long_told, short_part}
use Rattle.std.proofs.Common.{sym, arith, length-take-le}
use Rattle.queue.proofs.read.parents.parents_first.Goals as goal

pub slice_bounds-parents_in-end : goal.slice_bounds-parents_in-end
slice_bounds-parents_in-end c = sym (length-take-le 4294967295 c.args.area.now (omega (arith, c.if-area-lt4294967296.false)))

pub parents_in-requires-2 : goal.parents_in-requires-2
parents_in-requires-2 c = short_part 4294967295 4294967296 c.args.area.now (omega arith) (omega (arith, c.if-area-lt4294967296.false))

pub returns : goal.returns
returns c = long_told c.args.area.now 4294967295 c.args.time.0 c.args.height.0 c.args.out.now (omega arith) c.parents_in-2.ensures
