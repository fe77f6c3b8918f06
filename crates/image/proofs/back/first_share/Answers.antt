use Rattle.image.proofs.BackLaws.{first_said}
use Rattle.image.proofs.back.first_share.Goals as goal

pub returns : goal.returns
returns c = first_said c.args.l c.requires c.put_be.ensures c.eq.ensures
