use Rattle.queue.proofs.read.ReadingLaws.{stands_here}
use Rattle.queue.proofs.change.AdmitExitLaws.{known_100, known_4, known_entry}
use Rattle.std.proofs.Common.{arith}
use Rattle.queue.proofs.change.admit.tell_old.Goals as goal

pub entry_len-n-requires : goal.entry_len-n-requires
entry_len-n-requires c = let e = known_entry c.args.s.now c.args.at c.record_at-y.ensures c.requires.1 in (omega (arith, e.up), e.most, e.few, e.few_reads)

pub returns-then-out-n : goal.returns-then-out-n
returns-then-out-n c = known_4 c.args.s.now c.args.at c.record_at-y.ensures _ c.entry_len-n.ensures.0 c.if-out-n.true

pub put_entry-requires : goal.put_entry-requires
put_entry-requires c = (known_entry c.args.s.now c.args.at c.record_at-y.ensures c.requires.1, omega (arith, c.entry_len-n.ensures.0, c.if-out-n.false))

pub returns : goal.returns
returns c = known_100 c.args.s.now c.args.at c.record_at-y.ensures _ c.entry_len-n.ensures.0 c.if-out-n.false c.put_entry.ensures

pub record_at-y-requires : goal.record_at-y-requires
record_at-y-requires c = stands_here _ _ c.requires.1
