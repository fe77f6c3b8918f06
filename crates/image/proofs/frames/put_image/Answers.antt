use Rattle.image.proofs.ImageLaws.{head_room, in_view, line_of, line_size, recs_room, store_put}
use Rattle.queue.proofs.bytes.PutLaws.{sized}
use Rattle.queue.proofs.check.AreaLaws.{recs_stand}
use Rattle.queue.specs.layout.FormsCodec.{area_form, text_form}
use Rattle.queue.specs.paper.Kinds.{newest}
use Rattle.std.proofs.Common.{arith}
use Rattle.image.proofs.frames.put_image.Goals as goal

pub put_line-e-requires : goal.put_line-e-requires
put_line-e-requires c = let w = c.requires.is in let f = in_view w.frame in rw c.new.ensures (f.within, omega (arith, head_room area_form (text_form newest) w _ _ c.requires.room, line_size f))

pub put_lines-requires : goal.put_lines-requires
put_lines-requires c = let w = c.requires.is in (recs_stand w, recs_room area_form (text_form newest) w (sized (rw c.new.ensures at c.put_line-e.ensures) (line_of (in_view w.frame))) c.requires.room)

pub returns : goal.returns
returns c = λ st w. store_put area_form (text_form newest) w (sized (rw c.new.ensures at c.put_line-e.ensures) (line_of (in_view w.frame))) c.put_lines.ensures
