use Rattle.queue.specs.Basics.{one_of, one_most}
use Rattle.std.proofs.Common.{◌∙◌}
use Rattle.queue.proofs.layout.TurnLaws.{stands}
use Rattle.std.specs.Prelude.{false}
use Rattle.queue.proofs.read.PiecesLaws.{measure_end, measure_go, measure_in, measure_start, measure_within}
use Rattle.std.proofs.Common.{arith}
use Rattle.queue.proofs.read.pieces.measure.Goals as goal

pub loop-left-init : goal.loop-left-init
loop-left-init c = measure_start _ _ _ _ c.requires.0.0 c.requires.0.1

pub record_at-x-requires : goal.record_at-x-requires
record_at-x-requires c = stands false c.loop-left.invariant.scan c.loop-left-test.true

pub overflow_add-count : goal.overflow_add-count
overflow_add-count c = omega (arith, c.loop-left.invariant.few, c.from-count.ensures, one_most c.passes-p.result, c.requires.1)

pub piece_len-requires : goal.piece_len-requires
piece_len-requires c = let e = measure_in c.loop-left.invariant c.loop-left-test.true c.record_at-x.ensures in (e.up, e.entry.most, e.entry.few, e.entry.few_reads)

pub overflow_add-size : goal.overflow_add-size
overflow_add-size c = omega (arith, c.loop-left.invariant.most, c.size_if-size.ensures.1, c.piece_len.ensures.1, c.requires.1)

pub after_in-i-requires : goal.after_in-i-requires
after_in-i-requires c = measure_within c.loop-left.invariant c.loop-left-test.true c.record_at-x.ensures

pub loop-left-preserved : goal.loop-left-preserved
loop-left-preserved c = measure_go c.loop-left.invariant c.loop-left-test.true c.record_at-x.ensures c.passes-p.ensures (c.from-count.ensures ∙ one_of c.passes-p.result) c.piece_len.ensures.0 c.piece_len.ensures.1 c.size_if-size.ensures.0 c.after_in-i.ensures

pub returns : goal.returns
returns c = measure_end c.loop-left.invariant (omega arith)
