use Rattle.pokerbox.specs.Withdrawing.{withdrawn_stays_withdrawn}
use Rattle.pokerbox.specs.Withdrawing.{withdrawn_unselected}
use Rattle.pokerbox.proofs.claims.withdrawn_stays.Goals as goal

pub returns-clause-stays : goal.returns-clause-stays
returns-clause-stays c = withdrawn_stays_withdrawn

pub returns-clause-unselected : goal.returns-clause-unselected
returns-clause-unselected c = withdrawn_unselected
