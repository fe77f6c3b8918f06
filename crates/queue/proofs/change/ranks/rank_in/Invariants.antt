use Rattle.queue.proofs.change.RanksPlanLaws.{Ranking}
use Rattle.queue.proofs.change.ranks.rank_in.Given as goal

abbrev pub invariant-loop-j : goal.invariant-loop-j
invariant-loop-j l = Ranking l.s l.gone l.id l.j
