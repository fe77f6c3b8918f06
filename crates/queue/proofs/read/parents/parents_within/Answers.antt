use Rattle.std.proofs.Common.{sym, arith, length-take-le}
use Rattle.std.proofs.lemmas.List.{length-replicate}
use Rattle.queue.proofs.read.ParentsLaws.{with_count, with_few, with_list, with_picked, with_room, with_told, with_within, zero_array}
use Rattle.queue.proofs.read.parents.parents_within.Goals as goal

pub links-requires : goal.links-requires
links-requires g c = (c.requires.rows.0.known, c.requires.rows.0.short, c.requires.rows.1, omega (arith, c.requires.rows.3, c.requires.rows.4), omega arith, (rw length-replicate c.requires.sizes.4), rw c.new-slots.ensures (zero_array g.row.SLOTS), zero_array g.row.BITS, c.requires.rows.2)

pub count_rows-requires : goal.count_rows-requires
count_rows-requires g c = with_count c.args.s.now c.args.at.now c.requires.rows.0 c.args.w _ _ c.requires.rows.3 c.links.ensures.is.fits c.links.ensures.is.zero c.links.ensures.is.joined c.fill_ones.ensures (omega (arith, c.requires.rows.2, c.fill_ones.ensures)) (omega (arith, c.requires.rows.3, c.requires.rows.4)) (omega (arith, c.requires.rows.4))

pub list_rows-r-requires : goal.list_rows-r-requires
list_rows-r-requires g c = rw length-replicate (with_list c.args.s.now c.args.at.now c.requires.rows.0 c.args.w _ _ c.requires.rows.3 c.links.ensures.is.fits c.links.ensures.is.zero c.links.ensures.is.joined c.fill_ones.ensures (omega (arith, c.requires.rows.2, c.fill_ones.ensures)) (omega (arith, c.requires.rows.3, c.requires.rows.4)) (omega (arith, c.requires.rows.4)) c.count_rows.ensures g.row.ROWS (omega (arith, c.requires.rows.3, c.requires.rows.4)))

pub slice_bounds-put_listed-end : goal.slice_bounds-put_listed-end
slice_bounds-put_listed-end g c = sym (length-take-le c.list_rows-r.result _ (omega (arith, (with_room c.args.s.now c.args.at.now c.requires.rows.0 c.args.w _ _ c.requires.rows.3 c.links.ensures.is.fits c.links.ensures.is.zero c.links.ensures.is.joined c.fill_ones.ensures (omega (arith, c.requires.rows.2, c.fill_ones.ensures)) (omega (arith, c.requires.rows.3, c.requires.rows.4)) (omega (arith, c.requires.rows.4)) c.count_rows.ensures g.row.ROWS c.list_rows-r.ensures.1 (omega (arith, c.requires.rows.3, c.requires.rows.4))))))

pub put_listed-requires : goal.put_listed-requires
put_listed-requires g c = (with_within c.args.s.now c.args.at.now c.requires.rows.0 c.args.w _ _ c.requires.rows.3 c.links.ensures.is.fits c.links.ensures.is.zero c.links.ensures.is.joined (with_picked c.args.s.now c.args.at.now c.requires.rows.0 c.args.w _ _ c.requires.rows.3 c.links.ensures.is.fits c.links.ensures.is.zero c.links.ensures.is.joined c.fill_ones.ensures (omega (arith, c.requires.rows.2, c.fill_ones.ensures)) (omega (arith, c.requires.rows.3, c.requires.rows.4)) (omega (arith, c.requires.rows.4)) c.count_rows.ensures c.list_rows-r.ensures.0), with_few c.args.s.now c.args.at.now c.requires.rows.0 c.args.w _ _ c.requires.rows.3 c.links.ensures.is.fits c.links.ensures.is.zero c.links.ensures.is.joined (with_picked c.args.s.now c.args.at.now c.requires.rows.0 c.args.w _ _ c.requires.rows.3 c.links.ensures.is.fits c.links.ensures.is.zero c.links.ensures.is.joined c.fill_ones.ensures (omega (arith, c.requires.rows.2, c.fill_ones.ensures)) (omega (arith, c.requires.rows.3, c.requires.rows.4)) (omega (arith, c.requires.rows.4)) c.count_rows.ensures c.list_rows-r.ensures.0) (omega (arith, c.requires.rows.3, c.requires.rows.4)))

pub returns : goal.returns
returns g c = with_told c.args.s.now c.args.at.now c.requires.rows.0 c.args.w _ _ c.requires.rows.3 c.links.ensures.is.fits c.links.ensures.is.zero c.links.ensures.is.joined c.args.out.now (with_picked c.args.s.now c.args.at.now c.requires.rows.0 c.args.w _ _ c.requires.rows.3 c.links.ensures.is.fits c.links.ensures.is.zero c.links.ensures.is.joined c.fill_ones.ensures (omega (arith, c.requires.rows.2, c.fill_ones.ensures)) (omega (arith, c.requires.rows.3, c.requires.rows.4)) (omega (arith, c.requires.rows.4)) c.count_rows.ensures c.list_rows-r.ensures.0) c.put_listed.ensures
