use Rattle.queue.proofs.bytes.PutLaws.{kept}
use Rattle.queue.proofs.change.WriteNextLaws.{in_room, out_room, tail_new, tail_old}
use Rattle.std.specs.Prelude.{length}
use Rattle.std.proofs.Common.{arith}
use Rattle.queue.proofs.change.write.put_tail.Goals as goal

pub put_be-a-requires : goal.put_be-a-requires
put_be-a-requires c = omega (arith, out_room c.args.src.now c.args.base c.args.x c.args.n.0 c.args.at (length c.args.dst.now) c.if-n-ne0.true c.requires.1)

pub put_u8-requires : goal.put_u8-requires
put_u8-requires c = omega (arith, out_room c.args.src.now c.args.base c.args.x c.args.n.0 c.args.at (length c.args.dst.now) c.if-n-ne0.true c.requires.1, c.put_be-a.ensures.next, kept c.put_be-a.ensures)

pub returns-then-n-ne0 : goal.returns-then-n-ne0
returns-then-n-ne0 c = tail_new c.args.src.now c.args.base c.args.x c.args.n.0 c.if-n-ne0.true c.put_be-a.ensures c.put_u8.ensures

pub overflow_add-m : goal.overflow_add-m
overflow_add-m c = omega (arith, c.requires.0.within, c.requires.0.up_body, c.well_formed.0)

pub overflow_add-base : goal.overflow_add-base
overflow_add-base c = omega (arith, c.requires.0.within, c.requires.0.up_body, c.well_formed.0)

pub overflow_sub-x : goal.overflow_sub-x
overflow_sub-x c = omega (arith, c.requires.0.up_body)

pub copy_part-requires : goal.copy_part-requires
copy_part-requires c = record { read = omega (arith, c.requires.0.within, c.requires.0.up_body); written = in_room c.args.src.now c.args.base c.args.x c.args.n.0 c.args.at (length c.args.dst.now) c.if-n-ne0.false c.requires.1 }

pub returns : goal.returns
returns c = tail_old c.args.src.now c.args.base c.args.x c.args.n.0 c.if-n-ne0.false c.copy_part.ensures
