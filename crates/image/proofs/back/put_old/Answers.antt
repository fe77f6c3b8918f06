use Rattle.image.proofs.BackLaws.{store_recs_said}
use Rattle.image.proofs.ImageLaws.{head_room, recs_room, store_put}
use Rattle.queue.proofs.check.AreaLaws.{recs_stand}
use Rattle.queue.specs.layout.FormsCodec.{text_form}
use Rattle.queue.specs.paper.Kinds.{newest, oldest, rec_said?}
use Rattle.queue.specs.paper.Lists.{all?}
use Rattle.std.proofs.Common.{◌∙◌, ap}
use Rattle.image.proofs.back.put_old.Goals as goal

pub put_old_head-e-requires : goal.put_old_head-e-requires
put_old_head-e-requires c = let w = c.requires.is in rw c.new.ensures (record { head = _; is = w.head; room = head_room (text_form newest) (text_form oldest) w _ _ c.requires.room })

pub put_old_recs-requires : goal.put_old_recs-requires
put_old_recs-requires c = let w = c.requires.is in (recs_stand w, ap (all? (rec_said? oldest)) w.list ∙ store_recs_said _ c.requires.said, recs_room (text_form newest) (text_form oldest) w ((rw c.new.ensures at c.put_old_head-e.ensures) _ w.head) c.requires.room)

pub returns : goal.returns
returns c = λ st w q. store_put (text_form newest) (text_form oldest) w ((rw c.new.ensures at c.put_old_head-e.ensures) _ w.head) c.put_old_recs.ensures
