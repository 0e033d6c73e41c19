-- What a call to make a column, to speak or to listen comes to, and how it is read off what the call returns.
use Rattle.std.specs.Prelude.{ℕ, Result, Ok, Err}
use Rattle.sizes.specs.declared.numbers.Refusal.{Refusal}
use Rattle.sizes.specs.Refusals.{number}
use Rattle.agreement.specs.declared.Column.{Column}

-- done, or document 01's number of the refusal
pub data Answer : Type 0 where
  Done : Answer
  Refused : ℕ → Answer

-- the answer, and the state after the call
pub record Answered : Type 0 where
  pub answer : Answer
  pub column : Column

-- a call returns the state after it, or why it is refused; then the state is the one before
abbrev pub answered_in : Result Column Refusal → Column → Answered
answered_in (Ok after) before = record { answer = Done; column = after }
answered_in (Err why) before = record { answer = Refused (number why); column = before }
