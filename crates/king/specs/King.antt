-- The definitions, in document 01's order. `votes` and `proposals` are what was received: of column j, `votes j`.
use Rattle.std.specs.Prelude.{Bool, cond, ℕ, ◌+◌, ◌-◌, eqb, leb}
use Rattle.field.specs.Field.{blank}
use Rattle.sizes.specs.Sizes.{faults}
use Rattle.messages.specs.Messages.{read_bit, times}

-- "t + 1 phases of three rounds, king of phase k is column k"
unfoldable pub phases : ℕ → ℕ
phases n = faults n + 1

-- the bit that column j sent, or blank
unfoldable pub bits : (ℕ → ℕ) → ℕ → ℕ
bits received j = read_bit (received j)

-- the bit that was received at least `need` times, 1 if both were; `other` if none was
unfoldable pub chosen : ℕ → ℕ → (ℕ → ℕ) → ℕ → ℕ
chosen n need received other = cond (leb need (times (bits received) 1 n)) 1 (cond (leb need (times (bits received) 0 n)) 0 other)

-- "If 0 or 1 was received at least n - t times, propose it in the next round, else blank."
unfoldable pub proposal : ℕ → (ℕ → ℕ) → ℕ
proposal n votes = chosen n (n - faults n) votes blank

-- "a bit proposed at least t + 1 times becomes the vote; if both were, 1": else the vote is as it was
unfoldable pub settled : ℕ → (ℕ → ℕ) → ℕ → ℕ
settled n proposals vote = chosen n (faults n + 1) proposals vote

-- "The vote is firm if it was proposed at least n - t times."
unfoldable pub firm : ℕ → (ℕ → ℕ) → ℕ → Bool
firm n proposals vote = leb (n - faults n) (times (bits proposals) vote n)

-- "The king sends its vote to all, the others blanks."
unfoldable pub word : ℕ → ℕ → ℕ → ℕ
word king own vote = cond (eqb own king) vote blank

-- "A column that is not firm takes it, or 0 if it is blank."
unfoldable pub crowned : Bool → ℕ → ℕ → ℕ
crowned is_firm vote said = cond is_firm vote (cond (eqb (read_bit said) blank) 0 (read_bit said))
