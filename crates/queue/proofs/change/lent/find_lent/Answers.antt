use Rattle.std.specs.Prelude.{length}
use Rattle.std.specs.Ordering.{nat_cmp}
use Rattle.std.specs.Cmp.Lexicographic.{slice_cmp}
use Rattle.std.specs.List.Sorted.{IsBinarySearchResult}
use Rattle.std.proofs.Common.{subst, sym, ap, ◌∙◌, arith, length-take-le}
use Rattle.queue.specs.change.ReopenAs.{ids_at}
use Rattle.queue.proofs.change.LentLaws.{found_among, rows_are, rows_room}
use Rattle.queue.proofs.change.lent.find_lent.Goals as goal

pub returns : goal.returns
returns c =
    let e = c.as_chunks.ensures.front ∙ rows_are c.args.ids.now c.args.k c.requires.all in
    found_among c.args.id (ids_at c.args.ids.now c.args.k) c.requires.rise c.binary_search.result c.is_ok.ensures.value (ap length e) c.binary_search.ensures.bound (subst (λ l. IsBinarySearchResult (λ y. slice_cmp nat_cmp y c.args.id) l c.binary_search.result) e c.binary_search.ensures.position)

pub overflow_mul-k : goal.overflow_mul-k
overflow_mul-k c = omega (arith, rows_room c.args.ids.now c.args.k c.requires.all, c.well_formed.0)

pub slice_bounds-as_chunks-end : goal.slice_bounds-as_chunks-end
slice_bounds-as_chunks-end c = sym (length-take-le _ c.args.ids.now (rows_room c.args.ids.now c.args.k c.requires.all))
