use Rattle.queue.specs.theorems.AdmitKeeps.{within_share}
use Rattle.pokerbox.proofs.claims.within_share.Goals as goal

pub returns : goal.returns
returns c = within_share
