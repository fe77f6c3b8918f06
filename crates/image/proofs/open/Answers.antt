use Rattle.queue.proofs.RefusalLaws.{handed}
use Rattle.image.proofs.ImageLaws.{open_done, open_none, open_room, open_short}
use Rattle.image.proofs.open.Goals as goal

pub returns-in_err-t : goal.returns-in_err-t
returns-in_err-t c = rw (handed _ c.from_residual.ensures.1, c.in_err-t.ensures.refusal) (open_none _ _ c.in_err-t.ensures.is)

pub returns-then-area-t : goal.returns-then-area-t
returns-then-area-t c = open_short c.in_ok-t.ensures _ c.if-area-t.true

pub put_area-requires : goal.put_area-requires
put_area-requires c = open_room c.in_ok-t.ensures c.args.area.now c.if-area-t.false

pub returns : goal.returns
returns c = open_done c.in_ok-t.ensures _ c.if-area-t.false c.put_area.ensures
