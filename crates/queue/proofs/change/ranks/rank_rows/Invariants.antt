use Rattle.std.specs.Prelude.{◌≡◌, length}
use Rattle.queue.proofs.change.RanksLaws.{RowsTo}
use Rattle.queue.proofs.change.ranks.rank_rows.Given as goal

abbrev pub invariant-loop-j : goal.invariant-loop-j
invariant-loop-j l = (length l.rows ≡ length l.initial.rows) × RowsTo l.s l.gone l.rows l.j
