use Rattle.queue.proofs.change.AdmitExitLaws.{known_state}
use Rattle.queue.specs.bytes.ReaderLaws.{false_true}
use Rattle.std.specs.Prelude.{Bool, refl, ◌||◌, eqb}
use Rattle.std.proofs.Common.{ap}
use Rattle.queue.proofs.change.admit.holder_at.Goals as goal

pub record_at-y-requires : goal.record_at-y-requires
record_at-y-requires c = (rw c.in-Occupied.is at c.requires) refl

pub returns-in-Occupied : goal.returns-in-Occupied
returns-in-Occupied c = rw c.in-Occupied.is (λ _. refl, λ y _ h. known_state c.args.s.now _ c.record_at-y.ensures y h (ap (λ (p : Bool). p || eqb c.record_at-y.result.facts.state 2) c.pending.ensures))

pub returns-in-Vacant : goal.returns-in-Vacant
returns-in-Vacant c = rw c.in-Vacant.is (λ e. false_true e, λ y f h. false_true f)
