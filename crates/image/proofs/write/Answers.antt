use Rattle.queue.proofs.RefusalLaws.{unsound}
use Rattle.image.proofs.ImageLaws.{write_done, write_held, write_room, write_short, write_unsound}
use Rattle.image.proofs.write.Goals as goal

pub returns-in_err-a : goal.returns-in_err-a
returns-in_err-a c = λ old. rw (unsound _ c.from_residual.ensures.1 c.in_err-a.ensures) (write_unsound _ _ old c.in_err-a.ensures.is)

pub image_len-n-requires : goal.image_len-n-requires
image_len-n-requires c = write_held c.in_ok-a.ensures c.args.out.now 0

pub returns-then-out-n : goal.returns-then-out-n
returns-then-out-n c = λ old. write_short c.in_ok-a.ensures _ old c.image_len-n.ensures c.if-out-n.true

pub put_image-requires : goal.put_image-requires
put_image-requires c = write_room c.in_ok-a.ensures c.args.out.now 0 c.image_len-n.ensures c.if-out-n.false

pub returns : goal.returns
returns c = λ old. write_done c.in_ok-a.ensures _ old c.image_len-n.ensures c.if-out-n.false c.put_image.ensures
