-- The definitions of a wall's sizes, in document 01's order: t, d, B, then the refusals 1, 2, 3. t and d are tables by ranges of n, as document 02
-- gives them (request c); that they are document 01's floor((n - 1) / 3) and floor(t / 3) are laws.
use Rattle.std.specs.Prelude.{Bool, cond, ◌&&◌, ◌||◌, List, [], ◌∷◌, ℕ, ◌+◌, ◌/◌, leb, ltb}

-- a row of a table: a range, from its first number to its last, and what is given there
pub data Row : Type 0 where
  ◌to◌is◌ : ℕ → ℕ → ℕ → Row

infix 80 ◌to◌is◌
-- what the first row whose range has x gives; 0 where none has it
abbrev pub look_up : List Row → ℕ → ℕ
look_up [] x = 0
look_up (first to last is y ∷ rows) x = cond (leb first x && leb x last) y (look_up rows x)

-- "t is 1 for 4 to 6, 2 for 7 to 9, and so on to 10 for 31"
abbrev pub fault_rows : List Row
fault_rows =
    4 to 6 is 1
    ∷ 7 to 9 is 2
    ∷ 10 to 12 is 3
    ∷ 13 to 15 is 4
    ∷ 16 to 18 is 5
    ∷ 19 to 21 is 6
    ∷ 22 to 24 is 7
    ∷ 25 to 27 is 8
    ∷ 28 to 30 is 9
    ∷ 31 to 31 is 10
    ∷ []

-- t: how many of n columns may be unsound
unfoldable pub faults : ℕ → ℕ
faults n = look_up fault_rows n

-- "d is 0 for 4 to 9, 1 for 10 to 18, 2 for 19 to 27, 3 for 28 to 31"
abbrev pub degree_rows : List Row
degree_rows =
    4 to 9 is 0
    ∷ 10 to 18 is 1
    ∷ 19 to 27 is 2
    ∷ 28 to 31 is 3
    ∷ []

-- d: the greatest degree of a block
unfoldable pub degree : ℕ → ℕ
degree n = look_up degree_rows n

-- "B = ceil(m / (d + 1)) blocks of d + 1 bytes"
unfoldable pub blocks : ℕ → ℕ → ℕ
blocks n m = (m + degree n) / (degree n + 1)

unfoldable pub outside : ℕ → ℕ → ℕ → Bool
outside low high x = ltb x low || ltb high x

-- "1: n outside 4 to 31. 2: m outside 1 to 32. 3: a column number outside 1 to n." In this order; 0 for none
unfoldable pub refusal : ℕ → ℕ → ℕ → ℕ
refusal n m number = cond (outside 4 31 n) 1 (cond (outside 1 32 m) 2 (cond (outside 1 n number) 3 0))
