use Rattle.image.proofs.ImageLaws.{area_put, four_room, frames_room, zeros_room}
use Rattle.image.proofs.put_area.Goals as goal

pub put_be-a-requires : goal.put_be-a-requires
put_be-a-requires c = four_room c.requires.is _ c.requires.room

pub put_queue-e-requires : goal.put_queue-e-requires
put_queue-e-requires c = frames_room c.requires.is c.put_be-a.ensures c.requires.room

pub fill_zero-requires-clause-order : goal.fill_zero-requires-clause-order
fill_zero-requires-clause-order c = (zeros_room c.requires.is c.put_be-a.ensures c.put_queue-e.ensures c.requires.room).0

pub fill_zero-requires-clause-inside : goal.fill_zero-requires-clause-inside
fill_zero-requires-clause-inside c = (zeros_room c.requires.is c.put_be-a.ensures c.put_queue-e.ensures c.requires.room).1

pub returns : goal.returns
returns c = λ q w. area_put w c.put_be-a.ensures c.put_queue-e.ensures c.fill_zero.ensures
