use Rattle.image.specs.WayBack.{opens_there}
use Rattle.image.specs.WayBack.{comes_back}
use Rattle.pokerbox.proofs.claims.converts_back.Goals as goal

pub returns-clause-there : goal.returns-clause-there
returns-clause-there c = opens_there

pub returns-clause-back : goal.returns-clause-back
returns-clause-back c = comes_back
