use Rattle.queue.proofs.change.ClashLaws.{meets_read, meets_spent}
use Rattle.queue.proofs.change.clash.meets.Goals as goal

pub any_lent-requires : goal.any_lent-requires
any_lent-requires c = rw c.new-frame.ensures (c.requires.0.1.0.reads_in, c.requires.0.1.0.reads_all, c.requires.1, c.requires.2, c.requires.3)

pub returns-then-read : goal.returns-then-read
returns-then-read c = meets_read c.args.s.now c.args.base c.args.x _ c.if-read.true (rw c.new-frame.ensures at c.any_lent.ensures)

pub any_lent-requires-2 : goal.any_lent-requires-2
any_lent-requires-2 c = rw c.new-frame.ensures (c.requires.0.1.0.ins_in, c.requires.0.1.0.ins_all, c.requires.1, c.requires.2, c.requires.3)

pub returns : goal.returns
returns c = meets_spent c.args.s.now c.args.base c.args.x _ c.if-read.false (rw c.new-frame.ensures at c.any_lent-2.ensures)
