use Rattle.std.specs.Prelude.{length, refl}
use Rattle.std.proofs.Common.{ap, ◌∙◌}
use Rattle.queue.proofs.change.AdmitExitLaws.{lists_are}
use Rattle.queue.proofs.change.admit.lists_whole.Goals as goal

pub returns : goal.returns
returns c = lists_are c.args.id.now c.args.inputs.now c.args.outputs.now c.args.reads.now c.args.caller refl refl refl refl (c.len-a.ensures.is ∙ ap length c.new.ensures) (rw c.new.ensures at c.len-a.ensures.bytes) (c.len-b.ensures.is ∙ ap length c.new-2.ensures) (rw c.new-2.ensures at c.len-b.ensures.bytes) (c.len-c.ensures.is ∙ ap length c.new-3.ensures) (rw c.new-3.ensures at c.len-c.ensures.bytes) (c.len-d.ensures.is ∙ ap length c.new-4.ensures) (rw c.new-4.ensures at c.len-d.ensures.bytes)
