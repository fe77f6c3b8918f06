use Rattle.queue.specs.change.AdmitAs.{raw}
use Rattle.queue.proofs.bytes.PutLaws.{kept}
use Rattle.queue.proofs.change.AdmitLaws.{new_id, new_long}
use Rattle.queue.proofs.read.FindLaws.{among_fits, among_put}
use Rattle.queue.specs.change.AdmitAs.{new_of}
use Rattle.std.proofs.Common.{arith}
use Rattle.queue.proofs.change.admit.put_among.Goals as goal

pub overflow_sub-at : goal.overflow_sub-at
overflow_sub-at c = let f = among_fits c.requires.0 (new_of (raw c.args.x) c.args.x.id c.args.inputs.now c.args.outputs.now c.args.reads.now c.args.bytes.now c.args.label.now) (new_id (raw c.args.x) c.args.x.id c.args.inputs.now c.args.outputs.now c.args.reads.now c.args.bytes.now c.args.label.now) c.requires.1 in omega (arith, f.0, c.at-at.ensures)

pub copy_part-b-requires : goal.copy_part-b-requires
copy_part-b-requires c = let f = among_fits c.requires.0 (new_of (raw c.args.x) c.args.x.id c.args.inputs.now c.args.outputs.now c.args.reads.now c.args.bytes.now c.args.label.now) (new_id (raw c.args.x) c.args.x.id c.args.inputs.now c.args.outputs.now c.args.reads.now c.args.bytes.now c.args.label.now) c.requires.1 in record { read = omega (arith, f.0, f.1, f.2, f.3, c.at-at.ensures); written = omega (arith, f.4, c.requires.3, c.at-at.ensures) }

pub put_new-c-requires : goal.put_new-c-requires
put_new-c-requires c = let f = among_fits c.requires.0 (new_of (raw c.args.x) c.args.x.id c.args.inputs.now c.args.outputs.now c.args.reads.now c.args.bytes.now c.args.label.now) (new_id (raw c.args.x) c.args.x.id c.args.inputs.now c.args.outputs.now c.args.reads.now c.args.bytes.now c.args.label.now) c.requires.1 in (c.requires.2.0, c.requires.2.1, omega (arith, f.4, c.at-at.ensures, c.requires.3, new_long (raw c.args.x) c.args.x.id c.args.inputs.now c.args.outputs.now c.args.reads.now c.args.bytes.now c.args.label.now c.requires.2.0.id c.requires.2.1, c.copy_part-b.ensures.next, kept c.copy_part-b.ensures))

pub overflow_sub-o : goal.overflow_sub-o
overflow_sub-o c = let f = among_fits c.requires.0 (new_of (raw c.args.x) c.args.x.id c.args.inputs.now c.args.outputs.now c.args.reads.now c.args.bytes.now c.args.label.now) (new_id (raw c.args.x) c.args.x.id c.args.inputs.now c.args.outputs.now c.args.reads.now c.args.bytes.now c.args.label.now) c.requires.1 in omega (arith, f.2, c.next-next.ensures)

pub copy_part-requires : goal.copy_part-requires
copy_part-requires c = let f = among_fits c.requires.0 (new_of (raw c.args.x) c.args.x.id c.args.inputs.now c.args.outputs.now c.args.reads.now c.args.bytes.now c.args.label.now) (new_id (raw c.args.x) c.args.x.id c.args.inputs.now c.args.outputs.now c.args.reads.now c.args.bytes.now c.args.label.now) c.requires.1 in record { read = omega (arith, f.2, f.3, c.next-next.ensures); written = omega (arith, f.4, c.at-at.ensures, c.next-next.ensures, c.requires.3, new_long (raw c.args.x) c.args.x.id c.args.inputs.now c.args.outputs.now c.args.reads.now c.args.bytes.now c.args.label.now c.requires.2.0.id c.requires.2.1, c.copy_part-b.ensures.next, kept c.copy_part-b.ensures, c.put_new-c.ensures.next, kept c.put_new-c.ensures) }

pub returns : goal.returns
returns c = among_put c.requires.0 (new_of (raw c.args.x) c.args.x.id c.args.inputs.now c.args.outputs.now c.args.reads.now c.args.bytes.now c.args.label.now) (new_id (raw c.args.x) c.args.x.id c.args.inputs.now c.args.outputs.now c.args.reads.now c.args.bytes.now c.args.label.now) c.requires.1 (rw c.at-at.ensures at c.copy_part-b.ensures) c.put_new-c.ensures (rw c.next-next.ensures at c.copy_part.ensures)
