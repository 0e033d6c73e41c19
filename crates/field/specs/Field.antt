-- The definitions. Document 01, "Sizes of a wall": "The field is the whole numbers modulo 257", "A call on field values takes each
-- 16-bit number modulo 257; 0 has the inverse 0".
use Rattle.std.specs.Prelude.{ℕ, zero, suc, ◌+◌, ◌-◌, ◌*◌, ◌%◌, Bool, cond, ◌&&◌, List, eqb, ltb, get_or}
use Rattle.lists.specs.Lists.{all}
use Rattle.field.specs.declared.Field.{Field}

abbrev pub of : ℕ → ℕ
of x = x % 257

abbrev pub add : ℕ → ℕ → ℕ
add a b = (a + b) % 257

-- what plus b leaves a
abbrev pub subtract : ℕ → ℕ → ℕ
subtract a b = (a + (257 - b % 257)) % 257

abbrev pub multiply : ℕ → ℕ → ℕ
multiply a b = a * b % 257

-- of the numbers below n, one that leaves 1 when x is multiplied by it; 0 where there is none
unfoldable pub inverse_below : ℕ → ℕ → ℕ
inverse_below x zero = 0
inverse_below x (suc y) = cond (eqb (multiply x y) 1) y (inverse_below x y)

unfoldable pub inverse : ℕ → ℕ
inverse x = inverse_below x 257

-- "The inverses of 1 to 256 stand in one table: number times entry leaves 1 modulo 257." Entry k is the inverse of k + 1.
unfoldable pub inverse_entry : List ℕ → ℕ → Bool
inverse_entry table k = ltb (get_or table k 0) 257 && eqb (multiply (k + 1) (get_or table k 0)) 1

unfoldable pub inverse_table : List ℕ → Bool
inverse_table table = all (inverse_entry table) 256

-- "Blank is 65535": a message value that is no number of the field
abbrev pub blank : ℕ
blank = 65535

-- a number as the code holds it
abbrev pub element : ℕ → Field
element x = record { 0 = x }
