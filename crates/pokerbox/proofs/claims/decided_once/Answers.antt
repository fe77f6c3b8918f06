use Rattle.pokerbox.specs.Theorem.{decided_once}
use Rattle.pokerbox.proofs.claims.decided_once.Goals as goal

pub returns : goal.returns
returns c = decided_once
