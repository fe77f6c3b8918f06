use Rattle.std.specs.Prelude.{length, refl}
use Rattle.std.proofs.Common.{ap, ◌∙◌}
use Rattle.queue.proofs.change.AdmitExitLaws.{flags_are}
use Rattle.queue.proofs.change.admit.flags_listed.Goals as goal

pub returns : goal.returns
returns c = flags_are c.args.x c.args.bytes.now c.args.label.now c.args.tip.now refl refl refl c.given_id.ensures (rw c.new.ensures at c.len-bytes.ensures.bytes) (rw c.new-2.ensures at c.len-label.ensures.bytes) (c.len-c.ensures.is ∙ ap length c.new-3.ensures) (rw c.new-3.ensures at c.len-c.ensures.bytes)
