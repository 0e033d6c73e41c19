-- What the functions of the code cite: four numbers as a list, one coefficient more, one slope more.
use Rattle.std.specs.Prelude.{◌≡◌, refl, Bool, true, false, cond, List, [], ◌∷◌, map, ℕ, zero, suc, ◌+◌, ◌-◌, ◌≤◌, ◌<◌, eqb, ltb, length, get_or, take, max, Option, None, Some, MatchOption}
use Rattle.std.specs.Option.{unwrap_or}
use Rattle.std.proofs.Common.{sym, ap, ◌∙◌, arith, T_not, length-take}
use Rattle.lists.specs.Lists.{bit, count, list_of}
use Rattle.lists.specs.Entries.{get_d_within, get_d_list_of}
use Rattle.lists.specs.Count.{count_same}
use Rattle.field.specs.Field.{of, subtract, multiply, blank}
use Rattle.block.specs.Block.{part, value, word_at}
use Rattle.messages.specs.Messages.{from as at}
use Rattle.decoder.specs.Decoder.{meets_at, hits, slope, slopes, under, through, coefficients, four}
use Rattle.decoder.specs.Interpolation.{through_length}
use Rattle.decoder.specs.Places.{Next}
use Rattle.decoder.specs.declared.Coefficients.{Coefficients}
use Rattle.decoder.specs.declared.Four.{Four}

abbrev pub listed : Four → List ℕ
listed f = f.a ∷ f.b ∷ f.c ∷ f.d ∷ []

abbrev pub tail_of : Four → Four
tail_of f = record { a = f.b; b = f.c; c = f.d; d = 0 }

-- the polynomial of at most four coefficients with the value v at r and the quotient q
abbrev pub pushed : ℕ → ℕ → Coefficients → Coefficients
pushed v r q =
    record {
      c0 = subtract v (multiply r q.c0);
      c1 = subtract q.c0 (multiply r q.c1);
      c2 = subtract q.c1 (multiply r q.c2);
      c3 = of q.c2;
    }

abbrev pub make : ℕ → ℕ → ℕ → ℕ → Coefficients
make a b c d = record { c0 = a; c1 = b; c2 = c; c3 = d }

pub same : {a a' b b' c c' d d' : ℕ} → a ≡ a' → b ≡ b' → c ≡ c' → d ≡ d' → make a b c d ≡ make a' b' c' d'
same p q r s = cc

push_is : (v r : ℕ) (q : List ℕ) → length q ≤ 3 → coefficients (under v r q) ≡ pushed v r (coefficients q)
unfolding under
push_is v r [] h = same (omega arith) (omega arith) (omega arith) refl
push_is v r (a ∷ []) h = same refl (omega arith) (omega arith) refl
push_is v r (a ∷ b ∷ []) h = same refl refl (omega arith) refl
push_is v r (a ∷ b ∷ c ∷ []) h = same refl refl refl refl
push_is v r (a ∷ b ∷ c ∷ d ∷ q) h = absurd (omega arith)

-- the first k of four numbers whose unwanted ones are 0
pub slopes_wanted : (k r v b c d u w z : ℕ) → k ≤ 3
    → take k (cond (ltb 0 k) (slope r v b u) 0 ∷ cond (ltb 1 k) (slope r v c w) 0 ∷ cond (ltb 2 k) (slope r v d z) 0 ∷ 0 ∷ [])
    ≡ slopes r v (take k (b ∷ c ∷ d ∷ 0 ∷ [])) (take k (u ∷ w ∷ z ∷ 0 ∷ []))
unfolding slopes
slopes_wanted zero r v b c d u w z h = refl
slopes_wanted (suc zero) r v b c d u w z h = refl
slopes_wanted (suc (suc zero)) r v b c d u w z h = refl
slopes_wanted (suc (suc (suc zero))) r v b c d u w z h = refl
slopes_wanted (suc (suc (suc (suc k)))) r v b c d u w z h = absurd (omega arith)

pub through_none : (k : ℕ) (xs vs : List ℕ) → k ≡ 0 → record { c0 = 0; c1 = 0; c2 = 0; c3 = 0 } ≡ coefficients (through (take k xs) (take k vs))
unfolding through
through_none k xs vs e = rw e

-- the first three of four
tail_take : (j b c d : ℕ) → j ≤ 3 → take j (b ∷ c ∷ d ∷ []) ≡ take j (b ∷ c ∷ d ∷ 0 ∷ [])
tail_take zero b c d h = refl
tail_take (suc zero) b c d h = refl
tail_take (suc (suc zero)) b c d h = refl
tail_take (suc (suc (suc zero))) b c d h = refl
tail_take (suc (suc (suc (suc j)))) b c d h = absurd (omega arith)

-- one place less, with the slopes for values
pub through_step : (k : ℕ) (x v s : Four) → (k ≡ 0 → ⊥) → k ≤ 4
    → take (k - 1) (listed s) ≡ slopes x.a v.a (take (k - 1) (listed (tail_of x))) (take (k - 1) (listed (tail_of v)))
    → coefficients (through (take k (listed x)) (take k (listed v))) ≡ pushed v.a x.a (coefficients (through (take (k - 1) (listed (tail_of x))) (take (k - 1) (listed s))))
unfolding through
through_step zero x v s z h e = absurd (z refl)
through_step (suc j) x v s z h e =
    let b : suc j - 1 ≡ j = omega arith in
    let e' : take j (listed s) ≡ slopes x.a v.a (take j (listed (tail_of x))) (take j (listed (tail_of v))) = rw b at e in
    rw (b, tail_take j x.b x.c x.d (omega arith), tail_take j v.b v.c v.d (omega arith), ← e')
    (push_is v.a x.a (through (take j (listed (tail_of x))) (take j (listed s)))
    (omega (arith, through_length (take j (listed (tail_of x))) (take j (listed s)) (length-take j (listed (tail_of x)) ∙ sym (length-take j (listed s))), length-take j (listed (tail_of x)))))

pub take_map : (f : ℕ → ℕ) (k : ℕ) (xs : List ℕ) → take k (map f xs) ≡ map f (take k xs)
take_map f zero xs = refl
take_map f (suc k) [] = refl
take_map f (suc k) (x ∷ xs) = ap {B = List ℕ} (λ l. f x ∷ l) (take_map f k xs)

-- what stands at index i is the point at place i + 1
pub at_index : (points : List ℕ) (i : ℕ) → i < length points → get_or points i 0 ≡ at points (i + 1)
unfolding at
at_index points i h =
    let e : i + 1 - 1 ≡ i = omega arith in
    rw e (get_d_within points i 0 blank h)

-- COUNTING HITS by the codeword of a polynomial

-- its value at place x is the point there
unfoldable pub same_at : List ℕ → (ℕ → ℕ) → ℕ → Bool
same_at word y x = eqb (get_or word (x - 1) 0) (y x)

pub same_hits : (c : Coefficients) (word : List ℕ) (y : ℕ → ℕ) (n : ℕ) → n ≤ 32 → word ≡ list_of (word_at (part (four c) 0 4)) 32
    → count (same_at word y) n ≡ hits (four c) y n
unfolding same_at word_at part
same_hits c word y n h e =
    count_same (same_at word y) (meets_at (four c) y) n (λ x l u.
    let place : x - 1 + 1 ≡ x = omega arith in
    ap (λ (v : ℕ). eqb v (y x))
    (ap (λ (w : List ℕ). get_or w (x - 1) 0) e ∙ get_d_list_of (word_at (four c)) 32 (x - 1) 0 (omega arith) ∙ ap (λ (z : ℕ). value (four c) z) place))

-- at index i
pub same_index : (word points : List ℕ) (i : ℕ) → i < length points → bit (eqb (get_or word i 0) (get_or points i 0)) ≡ bit (same_at word (at points) (i + 1))
unfolding same_at
same_index word points i h =
    let e : i + 1 - 1 ≡ i = omega arith in
    rw e (ap (λ (y : ℕ). bit (eqb (get_or word i 0) y)) (at_index points i h))

-- FINDING THE NEXT PLACE

-- the first of the places before 33 that passes, or a place behind them
module _ (P : ℕ → Bool) (from : ℕ) (low : 1 ≤ from) where
  pub next_found : (x : ℕ) → from ≤ x → x < 33 → P x ≡ true → ((i : ℕ) → from ≤ i → i < x → P i ≡ false) → Next P from x × (x ≤ from + 32)
  next_found x a b e h = (record { later = a; skipped = λ i l u t. T_not (P i) (rw (h i l u) tt) t; passes = λ l. rw e tt }, omega arith)

  pub next_none : ((i : ℕ) → from ≤ i → i < 33 → P i ≡ false) → Next P from (max from 33) × (max from 33 ≤ from + 32)
  next_none h =
      (record { later = omega arith; skipped = λ i l u t. T_not (P i) (rw (h i l (omega arith)) tt) t; passes = λ l. absurd (omega arith) }, omega arith)

  pub next_is : (r : Option ℕ) → MatchOption r ((i : ℕ) → from ≤ i → i < 33 → P i ≡ false) (λ x. (from ≤ x) × (x < 33) × (P x ≡ true) × ((i : ℕ) → from ≤ i → i < x → P i ≡ false))
      → Next P from (unwrap_or r (max from 33)) × (unwrap_or r (max from 33) ≤ from + 32)
  next_is None h = next_none h
  next_is (Some x) h = next_found x h.0 h.1 h.2 h.3
