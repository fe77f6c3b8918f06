use Rattle.std.specs.Prelude.{refl}
use Rattle.image.proofs.BackLaws.{says_it}
use Rattle.queue.proofs.check.AreaLaws.{recs_stand}
use Rattle.image.proofs.back.said.Goals as goal

pub first_share-requires : goal.first_share-requires
first_share-requires c = c.requires.is.head.fit

pub sayable_recs-requires : goal.sayable_recs-requires
sayable_recs-requires c = recs_stand c.requires.is

pub returns-then-first_share : goal.returns-then-first_share
returns-then-first_share c = says_it c.first_share.ensures c.sayable_recs.ensures (rw c.if-first_share.true refl)

pub returns-else-first_share : goal.returns-else-first_share
returns-else-first_share c = says_it c.first_share.ensures refl (rw c.if-first_share.false refl)
