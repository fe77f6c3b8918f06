use Rattle.std.specs.Prelude.{◌+◌, ◌-◌, ◌/◌, false, refl}
use Rattle.std.proofs.Common.{sym, ap, ◌∙◌, arith}
use Rattle.queue.proofs.change.TouchLaws.{entries_many, entry_end, entry_here, entry_high, entry_low, entry_room}
use Rattle.queue.proofs.layout.RisingLaws.{finding}
use Rattle.queue.specs.bytes.OrderAs.{order_number}
use Rattle.queue.specs.bytes.ViewAs.{view_raw}
use Rattle.queue.proofs.change.touch.find_entry.Goals as goal

pub loop-lo-init : goal.loop-lo-init
loop-lo-init c = finding _ _ _ (entries_many c.args.k c.args.t.now)

pub overflow_add-m : goal.overflow_add-m
overflow_add-m c = omega (arith, entry_room c.args.t.now c.args.k c.requires c.loop-lo.invariant (c.loop-lo.lo + (c.loop-lo.hi - c.loop-lo.lo) / 2) (omega (arith, c.loop-lo-test.true)), c.well_formed.0)

pub overflow_mul-m : goal.overflow_mul-m
overflow_mul-m c = omega (arith, entry_room c.args.t.now c.args.k c.requires c.loop-lo.invariant (c.loop-lo.lo + (c.loop-lo.hi - c.loop-lo.lo) / 2) (omega (arith, c.loop-lo-test.true)), c.well_formed.0)

pub id-y-requires : goal.id-y-requires
id-y-requires c = rw c.new-v.ensures (omega (arith, entry_room c.args.t.now c.args.k c.requires c.loop-lo.invariant (c.loop-lo.lo + (c.loop-lo.hi - c.loop-lo.lo) / 2) (omega (arith, c.loop-lo-test.true)), view_raw {hex = false} c.args.t.now 0 refl))

pub returns-in-Equal : goal.returns-in-Equal
returns-in-Equal c = entry_here c.args.t.now c.args.k c.requires c.loop-lo.invariant (c.loop-lo.lo + (c.loop-lo.hi - c.loop-lo.lo) / 2) (omega (arith, c.loop-lo-test.true)) (rw c.new-v.ensures at c.id-y.ensures.is) (sym c.compare_ids.ensures ∙ ap order_number c.in-Equal.is)

pub loop-lo-preserved-in-Less : goal.loop-lo-preserved-in-Less
loop-lo-preserved-in-Less c = entry_low c.args.t.now c.args.k c.requires c.loop-lo.invariant (c.loop-lo.lo + (c.loop-lo.hi - c.loop-lo.lo) / 2) (omega (arith, c.loop-lo-test.true)) (rw c.new-v.ensures at c.id-y.ensures.is) (sym c.compare_ids.ensures ∙ ap order_number c.in-Less.is)

pub overflow_add-lo : goal.overflow_add-lo
overflow_add-lo c = omega (arith, entry_room c.args.t.now c.args.k c.requires c.loop-lo.invariant (c.loop-lo.lo + (c.loop-lo.hi - c.loop-lo.lo) / 2) (omega (arith, c.loop-lo-test.true)), c.well_formed.0)

pub loop-lo-preserved : goal.loop-lo-preserved
loop-lo-preserved c = entry_high c.args.t.now c.args.k c.requires c.loop-lo.invariant (c.loop-lo.lo + (c.loop-lo.hi - c.loop-lo.lo) / 2) (omega (arith, c.loop-lo-test.true)) (rw c.new-v.ensures at c.id-y.ensures.is) (λ e. let y : ⊥ = omega (arith, c.compare_ids.ensures, ap order_number c.in-Greater.is) in y) (λ e. let y : ⊥ = omega (arith, c.compare_ids.ensures, ap order_number c.in-Greater.is) in y)

pub returns : goal.returns
returns c = entry_end c.args.t.now c.args.k c.loop-lo.invariant c.loop-lo-test.false
