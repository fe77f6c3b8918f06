use Rattle.std.specs.Prelude.{refl}
use Rattle.queue.proofs.change.AdmitExitLaws.{label_is}
use Rattle.queue.proofs.change.admit.long_label.Goals as goal

pub returns : goal.returns
returns c = label_is c.args.flag c.args.label.now refl
