use Rattle.queue.specs.change.AdmitAs.{raw}
use Rattle.queue.proofs.bytes.PutLaws.{kept}
use Rattle.queue.proofs.change.AdmitLaws.{entry_put}
use Rattle.std.proofs.Common.{arith}
use Rattle.queue.proofs.change.admit.put_told.Goals as goal

pub put_be-w-requires : goal.put_be-w-requires
put_be-w-requires c = omega (arith, c.requires.2, c.put_id-a.ensures.next, kept c.put_id-a.ensures)

pub put_be-b-requires : goal.put_be-b-requires
put_be-b-requires c = omega (arith, c.requires.2, c.put_id-a.ensures.next, kept c.put_id-a.ensures, c.put_be-w.ensures.next, kept c.put_be-w.ensures)

pub put_terms-c-requires : goal.put_terms-c-requires
put_terms-c-requires c = (c.requires.0, omega (arith, c.requires.2, c.put_id-a.ensures.next, kept c.put_id-a.ensures, c.put_be-w.ensures.next, kept c.put_be-w.ensures, c.put_be-b.ensures.next, kept c.put_be-b.ensures))

pub put_u8-d-requires : goal.put_u8-d-requires
put_u8-d-requires c = omega (arith, c.requires.2, c.put_id-a.ensures.next, kept c.put_id-a.ensures, c.put_be-w.ensures.next, kept c.put_be-w.ensures, c.put_be-b.ensures.next, kept c.put_be-b.ensures, c.put_terms-c.ensures.next, kept c.put_terms-c.ensures)

pub put_id_list-e-requires : goal.put_id_list-e-requires
put_id_list-e-requires c = (c.requires.1.whole_ins, c.requires.1.few_ins, omega (arith, c.requires.2, c.put_id-a.ensures.next, kept c.put_id-a.ensures, c.put_be-w.ensures.next, kept c.put_be-w.ensures, c.put_be-b.ensures.next, kept c.put_be-b.ensures, c.put_terms-c.ensures.next, kept c.put_terms-c.ensures, c.put_u8-d.ensures.next, kept c.put_u8-d.ensures))

pub put_id_list-requires : goal.put_id_list-requires
put_id_list-requires c = (c.requires.1.whole_reads, c.requires.1.few_reads, omega (arith, c.requires.2, c.put_id-a.ensures.next, kept c.put_id-a.ensures, c.put_be-w.ensures.next, kept c.put_be-w.ensures, c.put_be-b.ensures.next, kept c.put_be-b.ensures, c.put_terms-c.ensures.next, kept c.put_terms-c.ensures, c.put_u8-d.ensures.next, kept c.put_u8-d.ensures, c.put_id_list-e.ensures.next, kept c.put_id_list-e.ensures))

pub returns : goal.returns
returns c = entry_put (raw c.args.x) c.args.x.id c.args.inputs.now c.args.outputs.now c.args.reads.now c.args.bytes.now c.args.label.now c.requires.0.caller c.requires.1 c.put_id-a.ensures c.put_be-w.ensures c.put_be-b.ensures c.put_terms-c.ensures c.put_u8-d.ensures c.put_id_list-e.ensures c.put_id_list.ensures
