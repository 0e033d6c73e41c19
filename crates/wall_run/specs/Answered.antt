-- The state that a call leaves, where a refused one leaves it as it was.
use Rattle.std.specs.Prelude.{◌≡◌, Result, Ok, Err}
use Rattle.std.specs.Result.{result_unwrap_or}
use Rattle.sizes.specs.declared.numbers.Refusal.{Refusal}
use Rattle.agreement.specs.declared.Column.{Column}
use Rattle.agreement.specs.Answers.{Answered, answered_in}
use Rattle.std.proofs.Common.{ap}

pub left : (r : Result Column Refusal) (before : Column) (a : Answered) → answered_in r before ≡ a → result_unwrap_or r before ≡ a.column
left (Ok c) before a e = ap (λ (a : Answered). a.column) e
left (Err why) before a e = ap (λ (a : Answered). a.column) e
