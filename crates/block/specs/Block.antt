-- The definitions. Document 01, "Sizes of a wall": a record "is cut into B = ceil(m / (d + 1)) blocks of d + 1 bytes, the last
-- filled with zeros. A block is a polynomial, its first byte the constant term."
use Rattle.std.specs.Prelude.{Bool, List, [], ◌∷◌, ℕ, zero, suc, ◌+◌, ◌*◌, eqb, get_or}
use Rattle.field.specs.Field.{add, multiply}

-- `count` bytes from place `from` on, zeros past the end
unfoldable pub part : List ℕ → ℕ → ℕ → List ℕ
part bytes from zero = []
part bytes from (suc count) = get_or bytes from 0 ∷ part bytes (suc from) count

-- block k of a record, counted from 0
abbrev pub block : ℕ → List ℕ → ℕ → List ℕ
block d bytes k = part bytes (k * (d + 1)) (d + 1)

-- "The value of a block at a point is its first byte plus the point times the value of the rest; an empty rest is 0."
unfoldable pub value : List ℕ → ℕ → ℕ
value [] x = 0
value (c ∷ cs) x = add c (multiply x (value cs x))

-- place i of a polynomial's codeword is its value at the point i + 1
unfoldable pub word_at : List ℕ → ℕ → ℕ
word_at cs i = value cs (i + 1)

-- two polynomials have one value at the point x
abbrev pub meet : List ℕ → List ℕ → ℕ → Bool
meet f g x = eqb (value f x) (value g x)
