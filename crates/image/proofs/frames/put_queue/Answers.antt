use Rattle.image.proofs.ImageLaws.{head_room, recs_room, store_put}
use Rattle.queue.proofs.check.AreaLaws.{recs_stand}
use Rattle.queue.specs.layout.FormsCodec.{area_form}
use Rattle.image.proofs.frames.put_queue.Goals as goal

pub put_head-e-requires : goal.put_head-e-requires
put_head-e-requires c = let w = c.requires.is in rw c.new.ensures (record { head = _; is = w.head; room = head_room c.args.form area_form w _ _ c.requires.room })

pub put_recs-requires : goal.put_recs-requires
put_recs-requires c = let w = c.requires.is in (recs_stand w, recs_room c.args.form area_form w ((rw c.new.ensures at c.put_head-e.ensures) _ w.head) c.requires.room)

pub returns : goal.returns
returns c = λ st w. store_put c.args.form area_form w ((rw c.new.ensures at c.put_head-e.ensures) _ w.head) c.put_recs.ensures
