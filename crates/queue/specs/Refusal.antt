-- The paper's number of each refusal, and a call's result as the paper's answer.
use Rattle.std.specs.Prelude.{Bool, ℕ, Result, Ok, Err}
use Rattle.queue.specs.paper.Lists.{one}
use Rattle.queue.specs.paper.Records.{Bytes}
use Rattle.queue.specs.declared.Kind.{Kind}
use Rattle.queue.specs.declared.Kind.TheVariants.{Nothing}
use Rattle.queue.specs.paper.Answer.{Answer, Refused, Done}
use Rattle.queue.specs.declared.refusal.Refusal.{Refusal}
use Rattle.queue.specs.declared.refusal.Refusal.TheVariants.{LimitOutOfRange, AreaTooShort, AreaNotSound, OutputTooShort, Malformed, TooManyInputs, TimeDeadlineElapsed, HeightDeadlineElapsed, LabelTooLong, QueueFull, ByteBudgetExhausted, InputReserved, NotFound, AlreadyMined, CounterExhausted, NotAnImage, WriteFailed, ShareExhausted, ReadAndSpent, FeesTooLarge, NotConvertible}

-- "Numbers a call may give back"
abbrev pub refusal_number : Refusal → ℕ
refusal_number LimitOutOfRange = 1
refusal_number AreaTooShort = 2
refusal_number AreaNotSound = 3
refusal_number OutputTooShort = 4
refusal_number Malformed = 5
refusal_number TooManyInputs = 6
refusal_number TimeDeadlineElapsed = 7
refusal_number HeightDeadlineElapsed = 8
refusal_number LabelTooLong = 9
refusal_number QueueFull = 10
refusal_number ByteBudgetExhausted = 11
refusal_number InputReserved = 12
refusal_number NotFound = 13
refusal_number AlreadyMined = 14
refusal_number CounterExhausted = 15
refusal_number NotAnImage = 16
refusal_number WriteFailed = 17
refusal_number ShareExhausted = 18
refusal_number ReadAndSpent = 20
refusal_number FeesTooLarge = 21
refusal_number NotConvertible = 22

-- what the paper says of a call's result
abbrev pub answer_of : Result Kind Refusal → Answer
answer_of (Ok k) = Done k
answer_of (Err r) = Refused (refusal_number r)

-- the number of a test's refusal; 0 where nothing is refused
abbrev pub refused_number : {T : Type 0} → Result T Refusal → ℕ
refused_number (Ok x) = 0
refused_number (Err r) = refusal_number r

-- what the paper says of a call that answers a number, or a yes or no, behind a reference that was `old`
abbrev pub number_told : Result ℕ Refusal → ℕ → Answer × ℕ
number_told (Ok n) old = (Done Nothing, n)
number_told (Err r) old = (Refused (refusal_number r), old)

abbrev pub test_told : Result Bool Refusal → ℕ → Answer × ℕ
test_told (Ok b) old = (Done Nothing, one b)
test_told (Err r) old = (Refused (refusal_number r), old)

-- and of one that also leaves `out`
abbrev pub size_told : Result ℕ Refusal → Bytes → ℕ → Answer × (Bytes × ℕ)
size_told (Ok n) out old = (Done Nothing, (out, n))
size_told (Err r) out old = (Refused (refusal_number r), (out, old))
