use Rattle.pokerbox.specs.Refusing.{demand_1}
use Rattle.pokerbox.proofs.claims.every_call_answers.Goals as goal

pub returns : goal.returns
returns c = demand_1
