use Rattle.std.specs.Prelude.{refl}
use Rattle.queue.proofs.change.PlanLaws.{stay_in, stay_out}
use Rattle.queue.proofs.change.plan.stays.Goals as goal

pub returns-then-n-ne0 : goal.returns-then-n-ne0
returns-then-n-ne0 c = stay_out c.args.n.0 c.args.floor.0 c.args.f c.if-n-ne0.true

pub returns : goal.returns
returns c = stay_in c.args.n.0 c.args.floor.0 c.args.f c.if-n-ne0.false refl
