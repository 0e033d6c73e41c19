-- A value from the last coefficient on, as the code goes.
use Rattle.std.specs.Prelude.{List, [], ◌∷◌, ℕ}
use Rattle.field.specs.Field.{add, multiply}

-- A VALUE, the last coefficient first

-- the value of a polynomial at x with these coefficients in front, where the rest has the value `rest`
unfoldable pub behind : List ℕ → ℕ → ℕ → ℕ
behind [] x rest = rest
behind (c ∷ cs) x rest = add c (multiply x (behind cs x rest))
