use Rattle.image.proofs.ImageLaws.{image_length, start_four}
use Rattle.std.proofs.Common.{arith}
use Rattle.image.proofs.image_len.Goals as goal

pub overflow_sub-result : goal.overflow_sub-result
overflow_sub-result c = omega (arith, start_four c.requires.is.store)

pub returns : goal.returns
returns c = λ s q w. image_length w
