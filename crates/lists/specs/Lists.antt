-- The definitions: lists and rows by an index function, tests over indices, counts over columns.
use Rattle.std.specs.Prelude.{Bool, true, false, ◌&&◌, List, [], ◌∷◌, ◌++◌, ℕ, zero, suc, ◌+◌, ◌-◌, ◌*◌, ◌<◌, eqb, get_or}

-- 1 for a test that passes, else 0
abbrev pub bit : Bool → ℕ
bit true = 1
bit false = 0

-- how many of the columns 1 to n pass the test
unfoldable pub count : (ℕ → Bool) → ℕ → ℕ
count P zero = 0
count P (suc n) = bit (P (suc n)) + count P n

-- f 1 + .. + f n
unfoldable pub sum : (ℕ → ℕ) → ℕ → ℕ
sum f zero = 0
sum f (suc n) = sum f n + f (suc n)

-- each of the numbers 0 to n - 1 passes the test
unfoldable pub all : (ℕ → Bool) → ℕ → Bool
all P zero = true
all P (suc n) = all P n && P n

-- every entry is below b
abbrev pub Below : ℕ → List ℕ → Type 0
Below b l = (i : ℕ) → get_or l i 0 < b

-- two lists are one
unfoldable pub same : List ℕ → List ℕ → Bool
same [] [] = true
same [] (y ∷ ys) = false
same (x ∷ xs) [] = false
same (x ∷ xs) (y ∷ ys) = eqb x y && same xs ys

module _ {ℓ} {A : Type ℓ} where
  -- f 0, f 1, .. f (n - 1)
  unfoldable pub list_of : (ℕ → A) → ℕ → List A
  list_of f zero = []
  list_of f (suc n) = list_of f n ++ (f n ∷ [])

  -- messages by column number: for each of the columns 1 to n a row of w values, one row after the other
  unfoldable pub rows_of : (ℕ → ℕ → A) → ℕ → ℕ → List A
  rows_of f w zero = []
  rows_of f w (suc n) = rows_of f w n ++ list_of (f (suc n)) w

  -- value k of column j's row, where rows have w values; z past the end
  abbrev pub in_row : ℕ → List A → ℕ → ℕ → A → A
  in_row w l j k z = get_or l ((j - 1) * w + k) z
