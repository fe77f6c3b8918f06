use Rattle.pokerbox.specs.FromImage.{from_image}
use Rattle.pokerbox.proofs.claims.survives_from_an_image.Goals as goal

pub returns : goal.returns
returns c = from_image
