use Rattle.pokerbox.specs.Theorem.{no_input_twice}
use Rattle.pokerbox.proofs.claims.no_input_twice.Goals as goal

pub returns : goal.returns
returns c = no_input_twice
