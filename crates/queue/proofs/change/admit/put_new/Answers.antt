use Rattle.queue.specs.change.AdmitAs.{raw}
use Rattle.queue.proofs.change.AdmitLaws.{new_put}
use Rattle.std.proofs.Common.{arith}
use Rattle.queue.proofs.change.admit.put_new.Goals as goal

pub overflow_add-b : goal.overflow_add-b
overflow_add-b c = omega (arith, c.requires.2, c.put_lead-a.ensures.next, c.put_terms-b.ensures.next, c.well_formed.1.1.1.1.1.1.1.0)

pub returns : goal.returns
returns c = new_put (raw c.args.x) c.args.x.id c.args.inputs.now c.args.outputs.now c.args.reads.now c.args.bytes.now c.args.label.now c.requires.0.caller c.put_lead-a.ensures c.put_terms-b.ensures c.fill_zero-c.ensures c.put_held.ensures
