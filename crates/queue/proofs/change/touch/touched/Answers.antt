use Rattle.queue.proofs.change.TouchLaws.{verdict_confirm, verdict_judge, verdict_none, verdict_same}
use Rattle.queue.specs.change.ReopenAs.{ids_at}
use Rattle.std.specs.Prelude.{◌&&◌}
use Rattle.std.proofs.Common.{ap, ◌∙◌, arith}
use Rattle.queue.proofs.change.touch.touched.Goals as goal

pub find_entry-requires : goal.find_entry-requires
find_entry-requires c = c.requires.2

pub overflow_mul-at : goal.overflow_mul-at
overflow_mul-at c = omega (arith, c.in-Some.ensures.within, c.well_formed.1)

pub confirmed-requires : goal.confirmed-requires
confirmed-requires c = (c.requires.1, c.in-Some.ensures.within)

pub returns-then-confirmed : goal.returns-then-confirmed
returns-then-confirmed c = verdict_same c.args.s.now c.args.recs c.args.base c.args.x c.args.t.now c.args.b.entries c.args.b.caught (ids_at c.args.ids.now c.args.b.available) c.in-Some.ensures c.confirmed.ensures c.if-confirmed.true

pub overflow_mul-result : goal.overflow_mul-result
overflow_mul-result c = omega (arith, c.in-Some.ensures.within, c.well_formed.1)

pub overflow_add-result : goal.overflow_add-result
overflow_add-result c = omega (arith, c.in-Some.ensures.within, c.well_formed.1)

pub returns-in-Some : goal.returns-in-Some
returns-in-Some c = verdict_confirm c.args.s.now c.args.recs c.args.base c.args.x c.args.t.now c.args.b.entries c.args.b.caught (ids_at c.args.ids.now c.args.b.available) c.in-Some.ensures c.confirmed.ensures c.if-confirmed.false

pub returns-then-not-b-pending : goal.returns-then-not-b-pending
returns-then-not-b-pending c = verdict_none c.args.s.now c.args.recs c.args.base c.args.x c.args.t.now c.args.b.entries c.args.b.caught (ids_at c.args.ids.now c.args.b.available) c.in_default.ensures (ap (λ v. c.args.b.caught && v) c.pending.ensures) c.if-not-b-pending.true

pub all_owned-a-requires : goal.all_owned-a-requires
all_owned-a-requires c = (c.requires.0, c.requires.3, c.requires.1, c.requires.4)

pub returns : goal.returns
returns c = verdict_judge c.args.s.now c.args.recs c.args.base c.args.x c.args.t.now c.args.b.entries c.args.b.caught (ids_at c.args.ids.now c.args.b.available) c.in_default.ensures (ap (λ v. c.args.b.caught && v) c.pending.ensures) c.if-not-b-pending.false c.all_owned-a.ensures (c.from.ensures ∙ c.pending_verdict.ensures)
