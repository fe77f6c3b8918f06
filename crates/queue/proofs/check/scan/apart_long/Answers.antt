use Rattle.queue.proofs.check.scan.apart_long.Goals as goal

pub apart_many-requires : goal.apart_many-requires
apart_many-requires c = (c.requires.0, c.if-s-lt4294967296.true, c.if-recs-lt4294967296.true, c.requires.1, c.requires.2, c.requires.3)

pub apart_passes-requires : goal.apart_passes-requires
apart_passes-requires c = (c.requires.0, c.requires.3)
