use Rattle.queue.proofs.change.WritePlanLaws.{Editing}
use Rattle.queue.proofs.change.write.put_rows.Given as goal

abbrev pub invariant-loop-k : goal.invariant-loop-k
invariant-loop-k l = Editing l.src l.p l.t l.vs l.rows l.to l.initial.dst l.dst l.k l.from l.o
