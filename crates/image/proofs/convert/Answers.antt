use Rattle.queue.proofs.RefusalLaws.{handed}
use Rattle.image.proofs.BackLaws.{back_22, back_4, back_done, back_len, back_none, back_room}
use Rattle.image.proofs.convert.Goals as goal

pub returns-in_err-t : goal.returns-in_err-t
returns-in_err-t c = λ old. rw (handed _ c.from_residual.ensures.1, c.in_err-t.ensures.refusal) (back_none _ _ old c.in_err-t.ensures.is)

pub returns-then-not-said : goal.returns-then-not-said
returns-then-not-said c = λ old. back_22 c.in_ok-t.ensures _ old c.if-form-ne-NEWEST.false c.said.ensures c.if-not-said.true

pub old_len-n-requires : goal.old_len-n-requires
old_len-n-requires c = back_len c.in_ok-t.ensures c.args.out.now 0 c.if-form-ne-NEWEST.false c.said.ensures c.if-not-said.false

pub returns-then-out-n : goal.returns-then-out-n
returns-then-out-n c = λ old. back_4 c.in_ok-t.ensures _ old c.if-form-ne-NEWEST.false c.said.ensures c.if-not-said.false c.old_len-n.ensures c.if-out-n.true

pub put_old-requires : goal.put_old-requires
put_old-requires c = back_room c.in_ok-t.ensures c.args.out.now 0 c.if-form-ne-NEWEST.false c.said.ensures c.if-not-said.false c.old_len-n.ensures c.if-out-n.false

pub returns : goal.returns
returns c = λ old. back_done c.in_ok-t.ensures _ old c.if-form-ne-NEWEST.false c.said.ensures c.if-not-said.false c.old_len-n.ensures c.if-out-n.false c.put_old.ensures
