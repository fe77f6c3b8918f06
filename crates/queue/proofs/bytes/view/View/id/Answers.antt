use Rattle.queue.proofs.bytes.ViewLaws.{copy_step}
use Rattle.queue.specs.bytes.Parts.{part}
use Rattle.queue.proofs.bytes.ReadLaws.{id_is}
use Rattle.std.proofs.Common.{◌≡◌, refl, sym, ◌∙◌, arith, take_all}
use Rattle.queue.proofs.bytes.view.View.id.Goals as goal

pub loop-i-init : goal.loop-i-init
unfolding part
loop-i-init c = refl

pub loop-i-preserved : goal.loop-i-preserved
loop-i-preserved c = copy_step c.args.self.now c.loop-i.b-items c.args.at c.loop-i.i _ (omega arith) (omega arith) c.byte.ensures c.loop-i.invariant

pub returns-clause-found : goal.returns-clause-found
returns-clause-found c =
    let k : c.loop-i.i ≡ 32 = omega arith in
    let e : c.loop-i.b-items ≡ part 32 c.args.self.now c.args.at = sym (take_all 32 c.loop-i.b-items (omega (arith, c.loop-i-test.array_long))) ∙ rw k at c.loop-i.invariant in
    id_is (record { is = refl; within = c.requires; small = rw c.self.view_is at c.self.invariant }) e
