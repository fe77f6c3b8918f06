use Rattle.std.specs.Prelude.{refl}
use Rattle.queue.proofs.change.ReleaseLaws.{out_is}
use Rattle.queue.proofs.change.release.is_out.Goals as goal

pub returns : goal.returns
returns c = out_is c.args.height.0 c.args.window c.args.p c.args.b c.args.level.0 c.args.seen c.args.bytes refl refl c.saturating_sub-d.ensures
