use Rattle.queue.proofs.change.AdmitExitLaws.{held_fit, ids_lent, ins_lent, new_102, new_4, reads_lent, short_label, terms_fit, tip_32, with_from}
use Rattle.queue.proofs.change.WriteLaws.{head_in_law}
use Rattle.std.proofs.Common.{arith}
use Rattle.queue.proofs.change.admit.admit_free.Goals as goal

pub entry_new_len-n-requires : goal.entry_new_len-n-requires
entry_new_len-n-requires c = (short_label c.requires.0.0 c.requires.1, (ids_lent (ins_lent c.requires.0.0 c.requires.1)).1, (ids_lent (reads_lent c.requires.0.0 c.requires.1)).1)

pub returns-then-out-n : goal.returns-then-out-n
returns-then-out-n c = new_4 c.requires.0.0 c.requires.1 c.requires.2 _ _ (omega (arith, c.entry_new_len-n.ensures, c.if-out-n.true))

pub tip_for-t-requires : goal.tip_for-t-requires
tip_for-t-requires c = (head_in_law c.requires.0.0.read, tip_32 c.requires.0.0 c.requires.1)

pub put_with-requires : goal.put_with-requires
put_with-requires c = (with_from c.requires.0.0 c.requires.1 c.requires.2 c.tip_for-t.result c.tip_for-t.ensures, c.requires.0.1, (terms_fit c.requires.0.0 c.requires.1 c.requires.2, held_fit c.requires.0.0 c.requires.1 c.requires.2), c.requires.3)

pub put_told-requires : goal.put_told-requires
put_told-requires c = (terms_fit c.requires.0.0 c.requires.1 c.requires.2, held_fit c.requires.0.0 c.requires.1 c.requires.2, omega (arith, c.entry_new_len-n.ensures, c.if-out-n.false))

pub returns : goal.returns
returns c = new_102 c.requires.0.0 c.requires.1 c.requires.2 c.tip_for-t.result c.tip_for-t.ensures _ _ (omega (arith, c.entry_new_len-n.ensures, c.if-out-n.false)) c.put_with.ensures c.put_told.ensures
