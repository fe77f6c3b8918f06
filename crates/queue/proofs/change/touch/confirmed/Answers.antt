use Rattle.queue.proofs.change.TouchLaws.{place_room, placed_is, unmined, unplaced}
use Rattle.queue.specs.bytes.ViewAs.{view_raw}
use Rattle.std.specs.Prelude.{◌&&◌, eqb, false, refl}
use Rattle.std.proofs.Common.{ap, arith}
use Rattle.queue.proofs.change.touch.confirmed.Goals as goal

pub returns-then-f : goal.returns-then-f
returns-then-f c = unmined c.args.s.now c.args.base c.args.x c.args.t.now c.args.p c.if-f.true

pub returns-in_default : goal.returns-in_default
returns-in_default c = unplaced c.args.s.now c.args.base c.args.x c.args.t.now c.args.p c.if-f.false c.in_default.is

pub be-n-requires-clause-inside : goal.be-n-requires-clause-inside
be-n-requires-clause-inside c = rw c.new-entry.ensures (omega (arith, view_raw {hex = false} c.args.t.now 0 refl, c.requires.1))

pub id-a-requires : goal.id-a-requires
id-a-requires c = rw c.new-frame.ensures (omega (arith, place_room c.args.s.now c.args.base c.args.x c.args.t.now c.args.p c.requires.0 c.in-Some.is))

pub overflow_add-p-2 : goal.overflow_add-p-2
overflow_add-p-2 c = omega (arith, view_raw {hex = false} c.args.t.now 0 refl, c.requires.1, c.well_formed.1)

pub id-b-requires : goal.id-b-requires
id-b-requires c = rw c.new-entry.ensures (omega (arith, view_raw {hex = false} c.args.t.now 0 refl, c.requires.1))

pub returns : goal.returns
returns c = placed_is c.args.s.now c.args.base c.args.x c.args.t.now c.args.p c.if-f.false c.in-Some.is c.requires.1 (rw c.new-entry.ensures at c.be-n.ensures.is) (rw c.new-frame.ensures at c.id-a.ensures.is) (rw c.new-entry.ensures at c.id-b.ensures.is) (ap (λ v. eqb c.in-Some.height.0 c.be-n.result && v) c.same_id.ensures)
