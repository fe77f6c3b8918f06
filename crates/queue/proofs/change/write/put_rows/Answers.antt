use Rattle.std.proofs.Common.{ap, ◌∙◌, arith}
use Rattle.queue.proofs.bytes.PutLaws.{kept}
use Rattle.queue.proofs.change.FinishLaws.{raw_within}
use Rattle.queue.proofs.change.WriteNextLaws.{parts_in}
use Rattle.queue.proofs.change.WritePlanLaws.{edit_done, editing, last_room, row_at, row_copy, row_fit, row_fits, row_go, row_seen, row_stands}
use Rattle.queue.specs.change.PlanAs.{number_n, verdict_in_value}
use Rattle.queue.specs.change.PlanAs.{RowNumbers}
use Rattle.queue.proofs.change.write.put_rows.Goals as goal

pub loop-k-init : goal.loop-k-init
loop-k-init c = editing c.args.to c.args.dst.now c.requires.0 c.requires.2

pub overflow_sub-at : goal.overflow_sub-at
overflow_sub-at c = (row_at c.loop-k.invariant c.requires.0 c.loop-k-test.true (ap (λ (z : RowNumbers). z.place) c.row_of-w.ensures)).0

pub copy_part-e-requires : goal.copy_part-e-requires
copy_part-e-requires c = record { read = let z = row_at c.loop-k.invariant c.requires.0 c.loop-k-test.true (ap (λ (z : RowNumbers). z.place) c.row_of-w.ensures) in omega (arith, z.0, z.1); written = row_copy c.loop-k.invariant c.requires.0 c.loop-k-test.true (ap (λ (z : RowNumbers). z.place) c.row_of-w.ensures) c.requires.3 }

pub verdict_in-v-requires : goal.verdict_in-v-requires
verdict_in-v-requires c = (row_fit c.loop-k.invariant c.requires.0 c.loop-k-test.true c.row_of-w.ensures).entry

pub number_of-n-requires : goal.number_of-n-requires
number_of-n-requires c = (row_fit c.loop-k.invariant c.requires.0 c.loop-k-test.true c.row_of-w.ensures).number

pub put_step-o-requires : goal.put_step-o-requires
put_step-o-requires c = let g = row_seen c.loop-k.invariant c.requires.0 c.loop-k-test.true (ap (λ (z : RowNumbers). z.place) c.row_of-w.ensures) c.record_at-x.ensures in (parts_in g, c.verdict_in-v.ensures.1, (g.0.small.state, g.0.small.reason, g.0.small.mark), row_fits c.loop-k.invariant c.requires.0 c.loop-k-test.true (ap (λ (z : RowNumbers). z.place) c.row_of-w.ensures) c.record_at-x.ensures c.requires.1 (c.verdict_in-v.ensures.0 ∙ ap (verdict_in_value c.args.vs.now) c.row_of-w.ensures) (c.number_of-n.ensures ∙ ap (λ (z : RowNumbers). number_n c.args.a.open.head.counter.0 z.rank) c.row_of-w.ensures) c.copy_part-e.ensures c.requires.3)

pub overflow_add-from : goal.overflow_add-from
overflow_add-from c = omega (arith, raw_within (row_seen c.loop-k.invariant c.requires.0 c.loop-k-test.true (ap (λ (z : RowNumbers). z.place) c.row_of-w.ensures) c.record_at-x.ensures), c.well_formed.0)

pub loop-k-preserved : goal.loop-k-preserved
loop-k-preserved c = row_go c.loop-k.invariant c.requires.0 c.loop-k-test.true (ap (λ (z : RowNumbers). z.place) c.row_of-w.ensures) c.record_at-x.ensures c.requires.1 (c.verdict_in-v.ensures.0 ∙ ap (verdict_in_value c.args.vs.now) c.row_of-w.ensures) (c.number_of-n.ensures ∙ ap (λ (z : RowNumbers). number_n c.args.a.open.head.counter.0 z.rank) c.row_of-w.ensures) c.copy_part-e.ensures c.put_step-o.ensures

pub overflow_sub-p : goal.overflow_sub-p
overflow_sub-p c = c.loop-k.invariant.up

pub copy_part-requires : goal.copy_part-requires
copy_part-requires c = record { read = omega (arith, c.loop-k.invariant.up, c.requires.0.read.store.ends); written = last_room c.loop-k.invariant c.requires.0 (omega arith) c.requires.3 }

pub shape_of-dst : goal.shape_of-dst
shape_of-dst c = kept c.copy_part.ensures ∙ c.loop-k.invariant.long

pub returns : goal.returns
returns c = edit_done c.loop-k.invariant c.requires.0 (omega arith) c.copy_part.ensures

pub record_at-x-requires : goal.record_at-x-requires
record_at-x-requires c = row_stands c.loop-k.invariant c.requires.0 c.loop-k-test.true (ap (λ (z : RowNumbers). z.place) c.row_of-w.ensures)
