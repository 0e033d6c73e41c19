-- What std's words say in those of this crate: the front of a list, a list with a tail behind it, a map over a range, a count and a test of a front.
use Rattle.std.specs.Prelude.{◌≡◌, Bool, ◌&&◌, List, [], ◌∷◌, ◌++◌, ℕ, zero, suc, ◌+◌, ◌-◌, ◌≤◌, ◌<◌, length, take, drop, get_or, cond, true, false}
use Rattle.std.specs.Array.{IsFromFnResultFrom, IsFromFnResult}
use Rattle.std.specs.Fn.{Mut, Called}
use Rattle.std.specs.List.{range_with_len, list_all, count_by}
use Rattle.std.proofs.Common.{refl, sym, ap, subst, ◌∙◌, add-zero, zero-add, arith, length-append}
use Rattle.std.proofs.Math.Seq.{take-length, take-suc}
use Rattle.std.proofs.Math.ListN.{replicate}
use Rattle.std.proofs.lemmas.List.{length-replicate, drop-replicate}
use Rattle.std.proofs.lemmas.List.FromFn.{length-range_with_len, get_or-range_with_len}
use Rattle.std.proofs.lemmas.List.Sums.{sum_by_push}
use Rattle.std.proofs.lemmas.List.Folds.{list_all-append}
use Rattle.lists.specs.Lists.{bit, count, all, list_of}
use Rattle.lists.specs.Entries.{all_same, list_of_same, list_of_get_d}

module _ {A : Type 0} where
  -- the front of a list
  pub list_of_take : (l : List A) (z : A) (n : ℕ) → n ≤ length l → list_of (λ i. get_or l i z) n ≡ take n l
  unfolding list_of
  list_of_take l z zero h = refl
  list_of_take l z (suc n) h = rw (list_of_take l z n (omega arith)) (sym (take-suc l n z h))

  -- how many of a list's front pass
  pub count_front : (P : A → Bool) (l : List A) (z : A) (n : ℕ) → n ≤ length l → count_by P (take n l) ≡ count (λ j. P (get_or l (j - 1) z)) n
  unfolding count
  count_front P l z zero h = refl
  count_front P l z (suc n) h =
      let k : suc n - 1 ≡ n = omega arith in
      let last : bit (P (get_or l (suc n - 1) z)) ≡ cond (P (get_or l n z)) 1 0 = ap (λ (i : ℕ). bit (P (get_or l i z))) k ∙ sym (as_bit (P (get_or l n z))) in
      rw (take-suc l n z h) (sum_by_push (λ x. cond (P x) 1 0) (take n l) (get_or l n z) ∙ omega (arith, count_front P l z n (omega arith), last))
    where
      as_bit : (b : Bool) → cond b 1 0 ≡ bit b
      as_bit true = refl
      as_bit false = refl

  -- whether all of a list's front pass
  pub all_front : (P : A → Bool) (l : List A) (z : A) (n : ℕ) → n ≤ length l → list_all P (take n l) ≡ all (λ i. P (get_or l i z)) n
  unfolding all
  all_front P l z zero h = refl
  all_front P l z (suc n) h = rw (take-suc l n z h, list_all-append, all_front P l z n (omega arith)) (one (all (λ i. P (get_or l i z)) n) (P (get_or l n z)))
    where
      one : (a b : Bool) → (a && (b && true)) ≡ (a && b)
      one true true = refl
      one true false = refl
      one false b = refl

  -- filled up with the default, a list reads as before
  pub padded_read : (l : List A) (z : A) (k i : ℕ) → get_or (l ++ replicate k z) i z ≡ get_or l i z
  padded_read [] z zero i = refl
  padded_read [] z (suc k) zero = refl
  padded_read [] z (suc k) (suc i) = padded_read [] z k i
  padded_read (x ∷ l) z k zero = refl
  padded_read (x ∷ l) z k (suc i) = padded_read l z k i

  -- a list written to the front of one that was filled with the default
  pub list_of_padded : (l : List A) (z : A) (n : ℕ) → length l ≤ n → l ++ drop (length l) (replicate n z) ≡ list_of (λ i. get_or l i z) n
  list_of_padded l z n h =
      let p : l ++ drop (length l) (replicate n z) ≡ l ++ replicate (n - length l) z = rw (drop-replicate (length l) n z) refl in
      let q : length (l ++ replicate (n - length l) z) ≡ n = length-append l (replicate (n - length l) z) ∙ omega (arith, length-replicate (n - length l) z) in
      p ∙ sym (list_of_get_d (l ++ replicate (n - length l) z) n z q)
      ∙ list_of_same (λ i. get_or (l ++ replicate (n - length l) z) i z) (λ i. get_or l i z) n (λ i u. padded_read l z (n - length l) i)

  -- a list known at each place
  pub list_of_at : (f : ℕ → A) (l : List A) (z : A) (n : ℕ) → length l ≡ n → ((i : ℕ) → i < n → get_or l i z ≡ f i) → l ≡ list_of f n
  list_of_at f l z n e h = sym (list_of_get_d l n z e) ∙ list_of_same (λ i. get_or l i z) f n h

-- what `array::from_fn` makes by a closure that changes no capture
module _ {F B : Type 0} (g : Mut F (ℕ × Unit {0}) B) (f : F) (P : ℕ → B) (ys : List B) (z : B) (made : (i : ℕ) (y : B) (q : F) → Called g f (i, tt) y q → (q ≡ f) × (y ≡ P i)) where
  made_at : (n i k : ℕ) → IsFromFnResultFrom g f ys i n → k < n → get_or ys (i + k) z ≡ P (i + k)
  made_at zero i k m h = absurd (omega arith)
  made_at (suc n) i zero m h = rw (add-zero i) (m.2.1 z ∙ (made i m.1 m.0 m.3).1)
  made_at (suc n) i (suc k) m h =
      let on : i + suc k ≡ (i + 1) + k = omega arith in
      rw on (made_at n (i + 1) k (subst (λ (q : F). IsFromFnResultFrom g q ys (i + 1) n) (made i m.1 m.0 m.3).0 m.4) (omega arith))

  pub list_of_made : (n : ℕ) → IsFromFnResult g f ys n → ys ≡ list_of P n
  list_of_made n m = list_of_at P ys z n m.long (λ i h. rw (zero-add i) at (made_at n 0 i m.each h))

-- std's `all` over a range from 0 on
pub all_range : (P : ℕ → Bool) (n : ℕ) → list_all P (range_with_len 0 n) ≡ all P n
all_range P n =
    let r = range_with_len 0 n in
    let t : take n r ≡ r = rw (length-range_with_len 0 n) at (take-length r) in
    rw t at (all_front P r 0 n (omega (arith, length-range_with_len 0 n)))
    ∙ all_same (λ i. P (get_or r i 0)) P n (λ i h. ap P (get_or-range_with_len 0 n i 0 h ∙ zero-add i))
