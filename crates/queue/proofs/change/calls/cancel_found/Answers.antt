use Rattle.queue.proofs.read.ReadingLaws.{stands_here}
use Rattle.queue.proofs.change.CallsCancelLaws.{entry_asks, found_100, found_14, found_4, held_in, put_asks}
use Rattle.std.proofs.Common.{arith}
use Rattle.std.proofs.lemmas.Bool.{not-false, not-true}
use Rattle.queue.proofs.change.calls.cancel_found.Goals as goal

pub returns-then-f : goal.returns-then-f
returns-then-f c = found_14 c.requires.0 c.record_at-x.ensures _ _ c.if-f.true

pub entry_len-n-requires : goal.entry_len-n-requires
entry_len-n-requires c = entry_asks c.requires.0 c.record_at-x.ensures

pub returns-then-out-n : goal.returns-then-out-n
returns-then-out-n c = found_4 c.requires.0 c.record_at-x.ensures _ _ c.if-f.false (not-true _ c.if-not-f.true) c.entry_len-n.ensures.0 c.if-out-n.true

pub put_entry-requires : goal.put_entry-requires
put_entry-requires c = (put_asks c.requires.0 c.record_at-x.ensures, omega (arith, c.entry_len-n.ensures.0, c.if-out-n.false))

pub returns-then-not-f : goal.returns-then-not-f
returns-then-not-f c = found_100 c.requires.0 c.record_at-x.ensures _ _ c.if-f.false (not-true _ c.if-not-f.true) c.entry_len-n.ensures.0 c.if-out-n.false c.put_entry.ensures

pub cancel_held-requires : goal.cancel_held-requires
cancel_held-requires c = (held_in c.requires.0 c.record_at-x.ensures c.args.next.now c.args.out.now c.if-f.false (not-false _ c.if-not-f.false), c.requires.1)

pub returns : goal.returns
returns c = c.cancel_held.ensures

pub record_at-x-requires : goal.record_at-x-requires
record_at-x-requires c = stands_here _ _ c.requires.0.here
