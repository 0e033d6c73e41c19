-- The definitions of decoding, by search: of the polynomials through d + 1 of the places the first that meets at least n - t points. Document 01,
-- "Rounds" 6: "the polynomial of degree at most d that meets at least n - t of them (a blank meets none), or none".
use Rattle.std.specs.Prelude.{Bool, cond, List, [], ◌∷◌, map, ℕ, zero, suc, ◌+◌, ◌-◌, ◌≤◌, eqb, leb, length, get_or, take, ◌≡◌}
use Rattle.std.specs.Prelude as P
use Rattle.std.proofs.Math.Option.{Option, none, some}
use Rattle.lists.specs.Lists.{count, Below}
use Rattle.field.specs.Field.{of, subtract, multiply, inverse}
use Rattle.block.specs.Block.{value}
use Rattle.messages.specs.Messages.{from as at}
use Rattle.sizes.specs.Sizes.{faults, degree, refusal}
use Rattle.sizes.specs.declared.numbers.Refusal.{Refusal}
use Rattle.sizes.specs.Refusals.{number}
use Rattle.decoder.specs.declared.Coefficients.{Coefficients}

-- the points lie by place, counted from 1, as messages by column number (`at`). The polynomial f meets y at x. "A blank meets none": a value is below 257, and a blank is not
abbrev pub meets_at : List ℕ → (ℕ → ℕ) → ℕ → Bool
meets_at f y x = eqb (value f x) (y x)

-- at how many of the places 1 to n
abbrev pub hits : List ℕ → (ℕ → ℕ) → ℕ → ℕ
hits f y n = count (meets_at f y) n

-- f has k coefficients below 257 and meets y at `need` of the places 1 to n
pub record Answer (n need k : ℕ) (y : ℕ → ℕ) (f : List ℕ) : Type 0 where
  pub size : length f ≡ k
  pub small : Below 257 f
  pub meets : need ≤ hits f y n

-- "the polynomial of degree at most d that meets at least n - t of them"
abbrev pub IsAnswer : ℕ → List ℕ → List ℕ → Type 0
IsAnswer n points f = Answer n (n - faults n) (degree n + 1) (at points) f

-- INTERPOLATION

-- the slope from the value v at r to the value u at x
abbrev pub slope : ℕ → ℕ → ℕ → ℕ → ℕ
slope r v x u = multiply (subtract u v) (inverse (subtract x r))

-- to each of the values us at the places xs
unfoldable pub slopes : ℕ → ℕ → List ℕ → List ℕ → List ℕ
slopes r v [] us = []
slopes r v (x ∷ xs) [] = []
slopes r v (x ∷ xs) (u ∷ us) = slope r v x u ∷ slopes r v xs us

-- the polynomial with the value v at r and the quotient q by (x - r)
unfoldable pub under : ℕ → ℕ → List ℕ → List ℕ
under v r [] = of v ∷ []
under v r (c ∷ q) = subtract v (multiply r c) ∷ under c r q

-- the polynomial with the values vs at the places xs: its quotient by (x - r) has the slopes for values
unfoldable pub through : List ℕ → List ℕ → List ℕ
through [] vs = []
through (r ∷ xs) [] = []
through (r ∷ xs) (v ∷ vs) = under v r (through xs (slopes r v xs vs))

-- THE DECODER, as a search: of the polynomials through k of the places 1 to n, one that meets enough of them

abbrev pub enough : ℕ → (ℕ → ℕ) → ℕ → List ℕ → Option (List ℕ)
enough n y need f = cond (leb need (hits f y n)) (some f) none

abbrev pub or_else : {A : Type 0} → Option A → Option A → Option A
or_else none b = b
or_else (some a) b = some a

-- k more of the places 1 to x beside those picked
unfoldable pub seek : ℕ → (ℕ → ℕ) → ℕ → ℕ → ℕ → List ℕ → Option (List ℕ)
seek n y need x zero picked = enough n y need (through picked (map y picked))
seek n y need zero (suc k) picked = none
seek n y need (suc x) (suc k) picked = let rest = seek n y need x (suc k) picked in or_else (seek n y need x k (suc x ∷ picked)) rest

unfoldable pub found : ℕ → List ℕ → Option (List ℕ)
found n points = seek n (at points) (n - faults n) n (degree n + 1) []

-- ITS ANSWER

pub data Decoded : Type 0 where
  Polynomial : Coefficients → Decoded
  Nothing : Decoded
  Refused : ℕ → Decoded

-- read off what a call returns: a polynomial, or that there is none, or why it is refused
abbrev pub found_in : P.Option Coefficients → Decoded
found_in P.None = Nothing
found_in (P.Some c) = Polynomial c

abbrev pub decoded_in : P.Result (P.Option Coefficients) Refusal → Decoded
decoded_in (P.Ok found) = found_in found
decoded_in (P.Err why) = Refused (number why)

abbrev pub coefficients : List ℕ → Coefficients
coefficients f = record { c0 = get_or f 0 0; c1 = get_or f 1 0; c2 = get_or f 2 0; c3 = get_or f 3 0 }

unfoldable pub answer_of : Option (List ℕ) → Decoded
answer_of none = Nothing
answer_of (some f) = Polynomial (coefficients f)

-- THE DEFINITION. n outside 4 to 31 is refused with 1 (one byte and column 1 are never refused), a slice not of n points with 4
unfoldable pub decoded : ℕ → List ℕ → Decoded
decoded n points =
    cond (eqb (refusal n 1 1) 0)
    (cond (eqb (length points) n) (answer_of (found n points)) (Refused 4))
    (Refused (refusal n 1 1))

-- document 01's number of each case, 0 for none
unfoldable pub refusal_of : Decoded → ℕ
refusal_of (Polynomial c) = 0
refusal_of Nothing = 0
refusal_of (Refused r) = r

abbrev pub four : Coefficients → List ℕ
four c = c.c0 ∷ c.c1 ∷ c.c2 ∷ c.c3 ∷ []

-- and its values: the d + 1 coefficients of a polynomial, or none
unfoldable pub polynomial_of : ℕ → Decoded → Option (List ℕ)
polynomial_of n (Polynomial c) = some (take (degree n + 1) (four c))
polynomial_of n Nothing = none
polynomial_of n (Refused r) = none
