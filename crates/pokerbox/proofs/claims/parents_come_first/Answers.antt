use Rattle.pokerbox.specs.Theorem.{parents_first_in_a_template}
use Rattle.pokerbox.proofs.claims.parents_come_first.Goals as goal

pub returns : goal.returns
returns c = parents_first_in_a_template
