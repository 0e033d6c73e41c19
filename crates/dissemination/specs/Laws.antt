-- What is sent and heard on the way of the code, as definitions.
use Rattle.std.specs.Prelude.{Bool, List, eqb, ltb, get_or, replicate}
use Rattle.std.proofs.Math.Bool.{cond}
use Prim.Native.Nat.{ℕ, ◌+◌, ◌-◌, ◌*◌}
use Rattle.field.specs.Field.{blank}
use Rattle.messages.specs.Messages.{read_point, said}
use Rattle.codeword.specs.Codeword.{values}
use Rattle.dissemination.specs.Dissemination.{points_in, kept_point}

-- SPEAKING OR NOT

-- a message in 32 places, or blanks
unfoldable pub silenced : Bool → List ℕ → List ℕ
silenced speaks message = cond speaks message (replicate 32 blank)

-- READING POINTS

-- place i of values, read as a point
unfoldable pub read_at : List ℕ → ℕ → ℕ
read_at values i = read_point (said values i)

-- value k from column j, of messages of b values, where `mine` stands at the own place
unfoldable pub heard_of : ℕ → ℕ → ℕ → List ℕ → ℕ → ℕ → ℕ
heard_of own mine b inbox k j = cond (eqb j own) mine (get_or inbox ((j - 1) * b + k) 0)

-- the kept point of block k, by what the column would send itself
unfoldable pub kept_from : ℕ → ℕ → List ℕ → ℕ → List ℕ → ℕ → ℕ
kept_from n own mine b inbox k = cond (ltb k b) (kept_point n (points_in own mine b inbox k)) blank
