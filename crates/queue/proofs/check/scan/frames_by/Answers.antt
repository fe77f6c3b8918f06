use Rattle.queue.proofs.check.ScanCheckLaws.{check_end, check_go, check_ids, check_line, check_room, check_short, check_start}
use Rattle.std.specs.Prelude.{refl}
use Rattle.std.proofs.Common.{◌∙◌, arith}
use Rattle.queue.proofs.check.scan.frames_by.Goals as goal

pub loop-left-init : goal.loop-left-init
loop-left-init c = (check_start c.args.form c.args.s.now c.args.recs.count c.args.recs.start c.args.k c.args.c c.requires.0 c.no_sums-a.ensures, refl)

pub returns-in_err-x : goal.returns-in_err-x
returns-in_err-x c = rw c.from_residual.ensures (check_short c.args.form c.args.s.now c.args.recs.count c.args.recs.start c.args.k c.args.c c.loop-left.invariant.0 c.loop-left-test.true c.in_err-x.ensures)

pub ends_line-requires : goal.ends_line-requires
ends_line-requires c = c.in_ok-x.ensures.within

pub returns-then-not-ends_line : goal.returns-then-not-ends_line
returns-then-not-ends_line c = check_line c.args.form c.args.s.now c.args.recs.count c.args.recs.start c.args.k c.args.c c.loop-left.invariant.0 c.loop-left-test.true c.in_ok-x.ensures c.ends_line.ensures c.if-not-ends_line.true

pub new_record-clear-requires : goal.new_record-clear-requires
new_record-clear-requires c = rw c.new-v.ensures (check_ids c.args.form c.args.s.now c.args.recs.count c.args.recs.start c.args.k c.args.c c.loop-left.invariant.0 c.loop-left-test.true c.in_ok-x.ensures)

pub add_sums-a-requires : goal.add_sums-a-requires
add_sums-a-requires c = (check_room c.args.form c.args.s.now c.args.recs.count c.args.recs.start c.args.k c.args.c c.loop-left.invariant.0 c.loop-left-test.true c.requires.1, c.in_ok-x.ensures.fact.small.bytes)

pub after_in-i-requires : goal.after_in-i-requires
after_in-i-requires c = c.in_ok-x.ensures.within

pub loop-left-preserved : goal.loop-left-preserved
loop-left-preserved c = (check_go c.args.form c.args.s.now c.args.recs.count c.args.recs.start c.args.k c.args.c c.loop-left.invariant.0 c.loop-left-test.true c.in_ok-x.ensures c.ends_line.ensures c.if-not-ends_line.false c.after_in-i.ensures c.is_above-up.ensures (rw c.new-v.ensures at c.new_record-clear.ensures) c.add_sums-a.ensures, c.new_record-clear.ensures.0 ∙ c.loop-left.invariant.1)

pub returns : goal.returns
returns c = check_end c.args.form c.args.s.now c.args.recs.count c.args.recs.start c.args.k c.args.c c.loop-left.invariant.0 (omega arith)
