use Rattle.queue.proofs.read.ReadingLaws.{stands_here}
use Rattle.queue.proofs.RefusalLaws.{handed}
use Rattle.queue.proofs.read.ReadingLaws.{place_held, place_off, place_tomb, place_within}
use Rattle.std.specs.Prelude.{refl}
use Rattle.std.proofs.Common.{arith}
use Rattle.std.proofs.lemmas.Bool.{not-false, not-true}
use Rattle.queue.proofs.read.reading.signed_place.Goals as goal

pub returns-in_err-at : goal.returns-in_err-at
returns-in_err-at c = rw (handed _ c.from_residual.ensures.1) (place_off _ _ _ c.in_err-at.ensures)

pub record_at-x-requires : goal.record_at-x-requires
record_at-x-requires c = stands_here _ _ c.in_ok-at.ensures.here

pub returns-then-not-f : goal.returns-then-not-f
returns-then-not-f c = place_tomb _ _ c.in_ok-at.ensures c.record_at-x.ensures (not-true _ c.if-not-f.true)

pub overflow_sub-result : goal.overflow_sub-result
overflow_sub-result c = let w = place_within _ _ c.in_ok-at.ensures c.record_at-x.ensures in omega (arith, w.1)

pub overflow_add-result : goal.overflow_add-result
overflow_add-result c = let w = place_within _ _ c.in_ok-at.ensures c.record_at-x.ensures in omega (arith, w.1, w.2)

pub returns : goal.returns
returns c = place_held _ _ c.in_ok-at.ensures c.record_at-x.ensures refl (not-false _ c.if-not-f.false)
