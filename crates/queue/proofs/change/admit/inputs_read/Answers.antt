use Rattle.queue.proofs.change.AdmitExitLaws.{ids_lent, none_reads, reads_by}
use Rattle.queue.proofs.change.AdmitLaws.{tally_asks}
use Rattle.queue.proofs.change.admit.inputs_read.Goals as goal

pub returns-then-u : goal.returns-then-u
returns-then-u c = none_reads c.requires.0 c.args.inputs.now c.if-u.true

pub ids_clash-requires : goal.ids_clash-requires
ids_clash-requires c = ((ids_lent c.requires.1).0, (tally_asks c.requires.0).0, c.requires.1.few, (ids_lent c.requires.1).1)

pub returns : goal.returns
returns c = reads_by c.requires.0 c.args.inputs.now c.requires.1 c.ids_clash.ensures
