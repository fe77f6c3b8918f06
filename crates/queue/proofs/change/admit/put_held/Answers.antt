use Rattle.queue.proofs.bytes.PutLaws.{kept}
use Rattle.queue.proofs.change.AdmitLaws.{held_put}
use Rattle.std.proofs.Common.{arith}
use Rattle.queue.proofs.change.admit.put_held.Goals as goal

pub put_id_list-b-requires : goal.put_id_list-b-requires
put_id_list-b-requires c = (c.requires.0.whole_ins, c.requires.0.few_ins, omega (arith, c.requires.1, c.put_u8-a.ensures.next, kept c.put_u8-a.ensures))

pub put_id_list-c-requires : goal.put_id_list-c-requires
put_id_list-c-requires c = (c.requires.0.whole_outs, c.requires.0.few_outs, omega (arith, c.requires.1, c.put_u8-a.ensures.next, kept c.put_u8-a.ensures, c.put_id_list-b.ensures.next, kept c.put_id_list-b.ensures))

pub put_id_list-d-requires : goal.put_id_list-d-requires
put_id_list-d-requires c = (c.requires.0.whole_reads, c.requires.0.few_reads, omega (arith, c.requires.1, c.put_u8-a.ensures.next, kept c.put_u8-a.ensures, c.put_id_list-b.ensures.next, kept c.put_id_list-b.ensures, c.put_id_list-c.ensures.next, kept c.put_id_list-c.ensures))

pub put_be-e-requires : goal.put_be-e-requires
put_be-e-requires c = omega (arith, c.requires.1, c.put_u8-a.ensures.next, kept c.put_u8-a.ensures, c.put_id_list-b.ensures.next, kept c.put_id_list-b.ensures, c.put_id_list-c.ensures.next, kept c.put_id_list-c.ensures, c.put_id_list-d.ensures.next, kept c.put_id_list-d.ensures)

pub copy_part-requires : goal.copy_part-requires
copy_part-requires c = record { read = omega arith; written = omega (arith, c.requires.1, c.put_u8-a.ensures.next, kept c.put_u8-a.ensures, c.put_id_list-b.ensures.next, kept c.put_id_list-b.ensures, c.put_id_list-c.ensures.next, kept c.put_id_list-c.ensures, c.put_id_list-d.ensures.next, kept c.put_id_list-d.ensures, c.put_be-e.ensures.next, kept c.put_be-e.ensures) }

pub returns : goal.returns
returns c = held_put c.args.inputs.now c.args.outputs.now c.args.reads.now c.args.bytes.now c.requires.0 c.put_u8-a.ensures c.put_id_list-b.ensures c.put_id_list-c.ensures c.put_id_list-d.ensures c.put_be-e.ensures c.copy_part.ensures
