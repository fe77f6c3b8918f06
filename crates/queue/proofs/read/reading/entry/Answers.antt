use Rattle.queue.proofs.read.ReadingLaws.{stands_here}
use Rattle.queue.proofs.RefusalLaws.{handed}
use Rattle.queue.proofs.read.ReadingLaws.{entry_100, entry_4, entry_fits, entry_off}
use Rattle.std.proofs.Common.{arith}
use Rattle.queue.proofs.read.reading.entry.Goals as goal

pub returns-in_err-at : goal.returns-in_err-at
returns-in_err-at c = rw (handed _ c.from_residual.ensures.1) (entry_off _ _ _ _ c.in_err-at.ensures)

pub record_at-x-requires : goal.record_at-x-requires
record_at-x-requires c = stands_here _ _ c.in_ok-at.ensures.here

pub entry_len-n-requires : goal.entry_len-n-requires
entry_len-n-requires c = let e = entry_fits _ _ c.args.out.now c.in_ok-at.ensures c.record_at-x.ensures in (e.up, e.most, e.few, e.few_reads)

pub returns-then-out-n : goal.returns-then-out-n
returns-then-out-n c = entry_4 _ _ _ c.in_ok-at.ensures c.record_at-x.ensures (omega (arith, c.entry_len-n.ensures.0, c.if-out-n.true))

pub put_entry-requires : goal.put_entry-requires
put_entry-requires c = (entry_fits _ _ c.args.out.now c.in_ok-at.ensures c.record_at-x.ensures, omega (arith, c.entry_len-n.ensures.0, c.if-out-n.false))

pub returns : goal.returns
returns c = entry_100 _ _ _ c.in_ok-at.ensures c.record_at-x.ensures c.put_entry.ensures (omega (arith, c.entry_len-n.ensures.0, c.if-out-n.false))
