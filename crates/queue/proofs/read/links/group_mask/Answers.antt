use Rattle.queue.proofs.read.LinksNameLaws.{mask_is}
use Rattle.std.proofs.Common.{arith}
use Rattle.queue.proofs.read.links.group_mask.Goals as goal

pub overflow_add-result : goal.overflow_add-result
overflow_add-result c = omega (arith, (mask_is c.args.m c.bit.ensures c.requires).1)

pub returns : goal.returns
returns c = mask_is c.args.m c.bit.ensures c.requires
