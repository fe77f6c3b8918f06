use Rattle.pokerbox.specs.Theorem.{no_input_twice_in_a_block}
use Rattle.pokerbox.proofs.claims.no_input_twice_in_a_block.Goals as goal

pub returns : goal.returns
returns c = no_input_twice_in_a_block
