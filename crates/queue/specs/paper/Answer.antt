-- What a call answers: a refusal's number, or done with its kind.
use Rattle.std.specs.Prelude.{ℕ}
use Rattle.queue.specs.declared.Kind.{Kind}

pub data Answer : Type 0 where
  Refused : ℕ → Answer
  Done : Kind → Answer
