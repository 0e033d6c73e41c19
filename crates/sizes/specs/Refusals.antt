-- Refusals as calls answer them: `Err` of one, `Ok` where there is none; and the numbers that document 01 gives them.
use Rattle.std.specs.Prelude.{◌≡◌, ℕ, Result, Ok, Err, IfOk}
use Rattle.sizes.specs.declared.numbers.Refusal.{Refusal}
use Rattle.sizes.specs.declared.numbers.Refusal.TheVariants as R

-- document 01, "Refusals from the input" and "Refusals from the state"; document 02's 11
abbrev pub number : Refusal → ℕ
number R.Columns = 1
number R.Bytes = 2
number R.Number = 3
number R.Length = 4
number R.Mark = 5
number R.Unsound = 6
number R.Listens = 7
number R.Speaks = 8
number R.Runs = 9
number R.Ended = 10
number R.State = 11

-- the number in an answer; 0 where nothing is refused
abbrev pub number_in : {A : Type 0} → Result A Refusal → ℕ
number_in (Ok x) = 0
number_in (Err why) = number why

-- a call refuses with the number `why`, or where that is 0 answers x
abbrev pub Gives : {A : Type 0} → Result A Refusal → ℕ → A → Type 0
Gives answer why x = (number_in answer ≡ why) × IfOk answer (λ y. y ≡ x)
