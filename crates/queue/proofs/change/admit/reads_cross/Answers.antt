use Rattle.queue.proofs.change.AdmitExitLaws.{cross_by, cross_none, cross_yes, ids_lent}
use Rattle.queue.proofs.change.AdmitLaws.{tally_asks}
use Rattle.queue.proofs.change.admit.reads_cross.Goals as goal

pub inputs_read-requires : goal.inputs_read-requires
inputs_read-requires c = (c.requires.0, c.requires.1)

pub returns-then-inputs_read : goal.returns-then-inputs_read
returns-then-inputs_read c = cross_yes c.args.s.now c.args.inputs.now c.args.reads.now c.inputs_read.ensures c.if-inputs_read.true

pub returns-then-m-eq0 : goal.returns-then-m-eq0
returns-then-m-eq0 c = cross_none c.args.s.now c.args.inputs.now c.args.reads.now c.inputs_read.ensures c.if-inputs_read.false c.if-m-eq0.true

pub ids_clash-requires : goal.ids_clash-requires
ids_clash-requires c = ((ids_lent c.requires.2).0, (tally_asks c.requires.0).0, c.requires.2.few, (ids_lent c.requires.2).1)

pub returns : goal.returns
returns c = cross_by c.args.s.now c.args.inputs.now c.args.reads.now c.inputs_read.ensures c.requires.0 c.requires.2 c.if-inputs_read.false c.ids_clash.ensures
