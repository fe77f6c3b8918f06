use Rattle.pokerbox.specs.Theorem.{the_claim}
use Rattle.pokerbox.proofs.claims.survives.Goals as goal

pub returns : goal.returns
returns c = the_claim
