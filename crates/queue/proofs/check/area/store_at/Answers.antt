use Rattle.queue.proofs.check.AreaLaws.{head_start, store_few, store_good, store_line, store_short}
use Rattle.queue.proofs.check.area.store_at.Goals as goal

pub returns-in_err-head : goal.returns-in_err-head
returns-in_err-head c = rw c.from_residual.ensures (store_short c.args.form c.args.s.now (rw c.new.ensures at c.in_err-head.ensures))

pub ends_line-requires : goal.ends_line-requires
ends_line-requires c = rw c.new.ensures at c.in_ok-head.ensures.within

pub returns-then-not-ends_line : goal.returns-then-not-ends_line
returns-then-not-ends_line c = store_line c.args.form c.args.s.now (rw c.new.ensures at c.in_ok-head.ensures) c.ends_line.ensures c.if-not-ends_line.true

pub after_in-start-requires : goal.after_in-start-requires
after_in-start-requires c = rw c.new.ensures at c.in_ok-head.ensures.within

pub frames-requires : goal.frames-requires
frames-requires c = (head_start c.args.form c.args.s.now (rw c.new.ensures at c.in_ok-head.ensures) c.ends_line.ensures c.requires c.if-not-ends_line.false c.after_in-start.ensures, c.in_ok-head.ensures.fact.count_small)

pub returns-in_err-read : goal.returns-in_err-read
returns-in_err-read c = rw c.from_residual-in_err-read.ensures (store_few c.args.form c.args.s.now (rw c.new.ensures at c.in_ok-head.ensures) c.ends_line.ensures c.requires c.if-not-ends_line.false c.after_in-start.ensures c.in_err-read.ensures)

pub returns : goal.returns
returns c = store_good c.args.form c.args.s.now (rw c.new.ensures at c.in_ok-head.ensures) c.ends_line.ensures c.requires c.if-not-ends_line.false c.after_in-start.ensures c.in_ok-read.ensures
