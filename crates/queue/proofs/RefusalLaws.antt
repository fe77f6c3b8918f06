-- What a `?` hands on of a refusal. Assumes nothing.
use Rattle.std.specs.Prelude.{◌≡◌, Result, Ok, Err, IsErrAnd}
use Rattle.std.proofs.Common.{ap, arith, ◌∙◌}
use Rattle.queue.specs.check.AreaAs.{NoArea}
use Rattle.queue.specs.paper.Records.{Bytes}
use Rattle.queue.specs.declared.refusal.Refusal.{Refusal}
use Rattle.queue.specs.declared.refusal.Refusal.TheVariants.{LimitOutOfRange, AreaTooShort, AreaNotSound, OutputTooShort, Malformed, TooManyInputs, TimeDeadlineElapsed, HeightDeadlineElapsed, LabelTooLong, QueueFull, ByteBudgetExhausted, InputReserved, NotFound, AlreadyMined, CounterExhausted, NotAnImage, WriteFailed, ShareExhausted, ReadAndSpent, FeesTooLarge, NotConvertible}
use Rattle.queue.specs.Refusal.{refusal_number}

-- the refusal itself
pub handed : {T : Type 0} {e : Refusal} (r : Result T Refusal) → IsErrAnd r (λ y. y ≡ e) → r ≡ Err e
handed (Ok x) h = absurd h
handed (Err y) h = ap Err h

-- that of bytes that hold no sound queue
pub unsound : {T : Type 0} {s : Bytes} {e : Refusal} (r : Result T Refusal) → IsErrAnd r (λ y. y ≡ e) → NoArea s e → r ≡ Err AreaNotSound
unsound r h n = handed r h ∙ ap Err n.refusal

-- no refusal's number is 0
pub numbered : (r : Refusal) → refusal_number r ≡ 0 → ⊥
numbered LimitOutOfRange e = absurd (let y : ⊥ = omega arith in y)
numbered AreaTooShort e = absurd (let y : ⊥ = omega arith in y)
numbered AreaNotSound e = absurd (let y : ⊥ = omega arith in y)
numbered OutputTooShort e = absurd (let y : ⊥ = omega arith in y)
numbered Malformed e = absurd (let y : ⊥ = omega arith in y)
numbered TooManyInputs e = absurd (let y : ⊥ = omega arith in y)
numbered TimeDeadlineElapsed e = absurd (let y : ⊥ = omega arith in y)
numbered HeightDeadlineElapsed e = absurd (let y : ⊥ = omega arith in y)
numbered LabelTooLong e = absurd (let y : ⊥ = omega arith in y)
numbered QueueFull e = absurd (let y : ⊥ = omega arith in y)
numbered ByteBudgetExhausted e = absurd (let y : ⊥ = omega arith in y)
numbered InputReserved e = absurd (let y : ⊥ = omega arith in y)
numbered NotFound e = absurd (let y : ⊥ = omega arith in y)
numbered AlreadyMined e = absurd (let y : ⊥ = omega arith in y)
numbered CounterExhausted e = absurd (let y : ⊥ = omega arith in y)
numbered NotAnImage e = absurd (let y : ⊥ = omega arith in y)
numbered WriteFailed e = absurd (let y : ⊥ = omega arith in y)
numbered ShareExhausted e = absurd (let y : ⊥ = omega arith in y)
numbered ReadAndSpent e = absurd (let y : ⊥ = omega arith in y)
numbered FeesTooLarge e = absurd (let y : ⊥ = omega arith in y)
numbered NotConvertible e = absurd (let y : ⊥ = omega arith in y)
