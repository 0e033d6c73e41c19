-- THE THEOREM of the definition `decoded`, `exactly`: for n points, 4 to 31, it gives f exactly when f has d + 1 coefficients below 257
-- and meets at least n - t of them, and none exactly when no such f exists. Otherwise it refuses: `refused_1`, `refused_4`.
use Rattle.std.specs.Prelude as P
use Rattle.sizes.specs.declared.numbers.Refusal.{Refusal}
use Rattle.sizes.specs.Refusals.{number_in}
use Rattle.decoder.specs.declared.Coefficients.{Coefficients}
use Rattle.decoder.specs.Decoder.{decoded_in}
use Rattle.std.specs.Prelude.{◌≡◌, ◌⊎◌, List, [], ◌∷◌, ℕ, ◌+◌, ◌-◌, ◌≤◌, ◌<◌, T, length, take}
use Rattle.std.proofs.Math.Path.{refl, ap}
use Rattle.std.proofs.Common.{sym, ◌∙◌, arith, eqb→eq}
use Rattle.std.proofs.Math.Option.{Option, none, some}
use borrow.Author.Tests.{eq-eqb, ne_eqb}
use Rattle.block.specs.Block.{value}
use Rattle.block.proofs.Values.{value_lt}
use Rattle.sizes.specs.Sizes.{faults, degree, refusal}
use Rattle.sizes.specs.Laws.{Sized}
use Rattle.sizes.proofs.Laws.{accepted as sizes_accepted, columns_sized, columns_accepted, columns_refused}
use Rattle.messages.specs.Messages.{from as at}
use Rattle.decoder.specs.Decoder.{meets_at, IsAnswer, found, coefficients, answer_of, decoded, refusal_of, four, polynomial_of}
use Rattle.decoder.proofs.Search.{seek_finds, seek_answers}
use Rattle.decoder.specs.Decoder.{Polynomial, Nothing, Refused}
use Rattle.decoder.specs.Exactly.{Exactly, Accepts}

-- a blank is met by no polynomial
pub blank_unmet : (points f : List ℕ) (x : ℕ) → 257 ≤ at points x → T (meets_at f (at points) x) → ⊥
blank_unmet points f x h t = omega (arith, value_lt f x, eqb→eq (value f x) (at points x) t)

-- at most four coefficients, in four and back
take_four : (f : List ℕ) (k : ℕ) → length f ≡ k → k ≤ 4 → take k (four (coefficients f)) ≡ f
take_four [] k e h = rw (sym e) refl
take_four (a ∷ []) k e h = rw (sym e) refl
take_four (a ∷ b ∷ []) k e h = rw (sym e) refl
take_four (a ∷ b ∷ c ∷ []) k e h = rw (sym e) refl
take_four (a ∷ b ∷ c ∷ d ∷ []) k e h = rw (sym e) refl
take_four (a ∷ b ∷ c ∷ d ∷ g ∷ f) k e h = absurd (omega arith)

module _ (n : ℕ) (points : List ℕ) where
  module _ (a : Accepts n points) where
    pub sizes : Sized n 1
    sizes = columns_sized n a.low a.high

    pub in_range : decoded n points ≡ answer_of (found n points)
    unfolding decoded
    in_range = rw (eq-eqb (refusal n 1 1) 0 (columns_accepted n a.low a.high), eq-eqb (length points) n a.full)

    answer_found : (f : List ℕ) → found n points ≡ some f → IsAnswer n points f
    unfolding found
    answer_found f e = seek_answers n (n - faults n) (degree n + 1) (at points) f e

    found_answer : (f : List ℕ) → IsAnswer n points f → found n points ≡ some f
    unfolding found
    found_answer f i =
        seek_finds n (n - faults n) (degree n + 1) (at points) (omega (arith, a.high)) (omega arith) (omega (arith, sizes.room)) f i

    -- the answer is the definition's
    pub is_answer : (f : List ℕ) → IsAnswer n points f → decoded n points ≡ Polynomial (coefficients f)
    unfolding answer_of
    is_answer f i = rw (in_range, found_answer f i)

    pub no_answer : ((f : List ℕ) → IsAnswer n points f → ⊥) → decoded n points ≡ Nothing
    unfolding answer_of
    no_answer h = rw in_range (go (found n points) refl)
      where
        go : (o : Option (List ℕ)) → found n points ≡ o → answer_of o ≡ Nothing
        go none e = refl
        go (some f) e = absurd (h f (answer_found f e))

    read : (o : Option (List ℕ)) → found n points ≡ o → polynomial_of n (answer_of o) ≡ o
    unfolding answer_of polynomial_of
    read none e = refl
    read (some f) e = ap {B = Option (List ℕ)} some (take_four f (degree n + 1) (answer_found f e).size (omega (arith, sizes.degree_high)))

    gives : polynomial_of n (decoded n points) ≡ found n points
    gives = ap (polynomial_of n) in_range ∙ read (found n points) refl

    accepted : (o : Option (List ℕ)) → refusal_of (answer_of o) ≡ 0
    unfolding answer_of refusal_of
    accepted none = refl
    accepted (some f) = refl

    pub exactly : Exactly n points
    exactly =
        record {
          accepts = ap refusal_of in_range ∙ accepted (found n points);
          finds = λ f. (λ e. answer_found f (sym gives ∙ e), λ i. gives ∙ found_answer f i);
          misses = (λ e f i. differ f (sym (gives ∙ found_answer f i) ∙ e), λ h. gives ∙ go h (found n points) refl);
        }
      where
        differ : (f : List ℕ) → ◌≡◌ {A = Option (List ℕ)} (some f) none → ⊥
        differ f e = let z : ◌≡◌ {A = ℕ} 0 1 = cc in omega arith

        go : ((f : List ℕ) → IsAnswer n points f → ⊥) → (o : Option (List ℕ)) → found n points ≡ o → found n points ≡ none
        go h none e = e
        go h (some f) e = absurd (h f (answer_found f e))

  -- by the refusal of the sizes, as the code asks it
  pub refused_columns : (refusal n 1 1 ≡ 0 → ⊥) → decoded n points ≡ Refused (refusal n 1 1)
  unfolding decoded
  refused_columns h = rw (ne_eqb (refusal n 1 1) 0 h)

  pub refused_points : refusal n 1 1 ≡ 0 → (length points ≡ n → ⊥) → decoded n points ≡ Refused 4
  unfolding decoded
  refused_points e h = rw (eq-eqb (refusal n 1 1) 0 e, ne_eqb (length points) n h)

  -- and by what document 01 says of it
  pub refused_1 : (n < 4) ⊎ (31 < n) → decoded n points ≡ Refused 1
  unfolding decoded
  refused_1 h = rw (columns_refused n h)

  pub refused_4 : 4 ≤ n → n ≤ 31 → (length points ≡ n → ⊥) → decoded n points ≡ Refused 4
  refused_4 l u h = refused_points (columns_accepted n l u) h

  pub accepts_of : refusal n 1 1 ≡ 0 → length points ≡ n → Accepts n points
  accepts_of e f =
      let r = sizes_accepted n 1 1 e in
      record { low = r.range.columns_low; high = r.range.columns_high; full = f }

-- what is told of a refusal by what a call returns
tells : (r : P.Result (P.Option Coefficients) Refusal) → number_in r ≡ refusal_of (decoded_in r)
unfolding refusal_of
tells (P.Ok P.None) = refl
tells (P.Ok (P.Some c)) = refl
tells (P.Err why) = refl

-- n points are not refused
pub answered : (n : ℕ) (points : List ℕ) → Accepts n points → (r : P.Result (P.Option Coefficients) Refusal) → decoded_in r ≡ decoded n points → number_in r ≡ 0
answered n points a r e = tells r ∙ ap refusal_of e ∙ (exactly n points a).accepts
