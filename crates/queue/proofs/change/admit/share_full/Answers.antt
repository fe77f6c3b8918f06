use Rattle.queue.proofs.change.AdmitLaws.{share_free, share_told, tally_asks}
use Rattle.queue.proofs.change.admit.share_full.Goals as goal

pub share-m-requires : goal.share-m-requires
share-m-requires c = c.requires.1

pub returns-then-n-m : goal.returns-then-n-m
returns-then-n-m c = share_free c.requires.0 c.args.caller c.share-m.ensures c.requires.2 c.if-n-m.true

pub tally-requires : goal.tally-requires
tally-requires c = tally_asks c.requires.0

pub returns : goal.returns
returns c = share_told c.requires.0 c.args.caller c.share-m.ensures c.tally.ensures.0
