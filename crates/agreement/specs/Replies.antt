-- What a call for the outcome comes to, and how it is read off what the call returns.
use Rattle.std.specs.Prelude.{List, ℕ, Result, Ok, Err, Option, Some, None, replicate}
use Rattle.sizes.specs.declared.numbers.Refusal.{Refusal}
use Rattle.sizes.specs.Refusals.{number}
use Rattle.agreement.specs.declared.Outcome.{Outcome}
use Rattle.agreement.specs.declared.Outcome.TheVariants.{Nothing, Record}
use Rattle.agreement.specs.declared.Column.{Column}
use Rattle.agreement.specs.declared.Entry.{Entry}

pub data Reply : Type 0 where
  Ended : Outcome → Reply
  Refused : ℕ → Reply

-- the reply; the grade that goes with it, in an agreement the one with which the column left dispersal; the record's bytes, zeros past m and
-- where there is no record; and the state as it came
pub record Replied : Type 0 where
  pub reply : Reply
  pub grade : ℕ
  pub bytes : List ℕ
  pub column : Column

-- the number of the refusal, 0 for none, and the entry, a mark 0 and zeros where it is refused
pub record Told : Type 0 where
  pub refusal : ℕ
  pub entry : Entry

-- a call returns the record, or that there is none, or why it is refused
abbrev pub reply_in : Result (Option (List ℕ)) Refusal → Reply
reply_in (Ok None) = Ended Nothing
reply_in (Ok (Some bytes)) = Ended Record
reply_in (Err why) = Refused (number why)

abbrev pub bytes_in : Result (Option (List ℕ)) Refusal → List ℕ
bytes_in (Ok None) = replicate 32 0
bytes_in (Ok (Some bytes)) = bytes
bytes_in (Err why) = replicate 32 0

-- a column that is asked gives the grade beside it; the state is the one that was handed in
abbrev pub replied_in : Result (Option (List ℕ)) Refusal → ℕ → Column → Replied
replied_in asked grade c = record { reply = reply_in asked; grade = grade; bytes = bytes_in asked; column = c }
