-- Two different polynomials of k coefficients below 257 meet at fewer than k of the points 1 to 256.
-- By division: where two polynomials meet at r, so do their quotients by (x - r) at every other point at which the polynomials meet;
-- so there is one point and one coefficient less. Without differences: p(x) + r q(x) = p(r) + x q(x).
use Rattle.std.specs.Prelude.{◌≡◌, refl, List, [], ◌∷◌, ℕ, zero, suc, ◌+◌, ◌-◌, ◌*◌, ◌/◌, ◌≤◌, ◌<◌, eqb, length}
use Rattle.std.proofs.Common.{sym, ap, ap₂, ◌∙◌, mod-eq_of_lt, add-sub_of_le, arith, T_not, eqb→eq}
use Rattle.std.proofs.Math.Decide.{dec_le, dec_lt}
use Rattle.lists.specs.Lists.{count, Below}
use Rattle.lists.specs.Tests.{eq→eqb}
use Rattle.lists.specs.Count.{Found, find, cover, count_one}
use Rattle.field.specs.Field.{of}
use Rattle.field.specs.Congruence.{◌≋◌, with_multiples, by_multiples, reduce, plus, scale}
use Rattle.field.specs.Laws.{cancel}
use Rattle.block.specs.Block.{value, meet}
use Rattle.block.proofs.Values.{value_lt, value_cons}

-- DIVISION

-- the quotient of c ∷ cs by (x - r), whatever c is
unfoldable pub quotient : List ℕ → ℕ → List ℕ
quotient [] r = []
quotient (c ∷ cs) r = value (c ∷ cs) r ∷ quotient cs r

pub quotient_length : (cs : List ℕ) (r : ℕ) → length (quotient cs r) ≡ length cs
unfolding quotient
quotient_length [] r = refl
quotient_length (c ∷ cs) r = ap suc (quotient_length cs r)

pub quotient_below : (cs : List ℕ) (r : ℕ) → Below 257 (quotient cs r)
unfolding quotient
quotient_below [] r i = omega arith
quotient_below (c ∷ cs) r zero = value_lt (c ∷ cs) r
quotient_below (c ∷ cs) r (suc i) = quotient_below cs r i

division_step : (c F G Q x r : ℕ) → F + r * Q ≋ G + x * Q → of (c + x * F) + r * of (G + x * Q) ≋ of (c + r * G) + x * of (G + x * Q)
division_step c F G Q x r h =
    plus _ (c + x * F) _ (r * (G + x * Q)) (reduce (c + x * F)) (scale r _ (G + x * Q) (reduce (G + x * Q)))
    ∙ by_multiples (c + x * F + r * (G + x * Q)) (c + r * G + x * (G + x * Q)) (x * ((G + x * Q) / 257)) (x * ((F + r * Q) / 257))
    (omega (arith, ap (λ (z : ℕ). x * z) (with_multiples (F + r * Q) (G + x * Q) h)))
    ∙ sym (plus _ (c + r * G) _ (x * (G + x * Q)) (reduce (c + r * G)) (scale x _ (G + x * Q) (reduce (G + x * Q))))

pub division : (c : ℕ) (cs : List ℕ) (x r : ℕ) → value (c ∷ cs) x + r * value (quotient cs r) x ≋ value (c ∷ cs) r + x * value (quotient cs r) x
unfolding quotient value
division c [] x r = omega arith
division c (b ∷ bs) x r =
    rw (value_cons c (b ∷ bs) x, value_cons c (b ∷ bs) r, value_cons (value (b ∷ bs) r) (quotient bs r) x)
    (division_step c (value (b ∷ bs) x) (value (b ∷ bs) r) (value (quotient bs r) x) x r (division b bs x r))

-- QUOTIENTS MEET WHERE POLYNOMIALS DO

-- two divisions with one value at x and one at r
cross : (F G P Q x r : ℕ) → F + r * P ≋ G + x * P → F + r * Q ≋ G + x * Q → x * P + r * Q ≋ x * Q + r * P
cross F G P Q x r h k =
    by_multiples (x * P + r * Q) (x * Q + r * P) ((F + r * P) / 257 + (G + x * Q) / 257) ((G + x * P) / 257 + (F + r * Q) / 257)
    (omega (arith, with_multiples (F + r * P) (G + x * P) h, with_multiples (F + r * Q) (G + x * Q) k))

-- x = r + e
ahead : (e P Q r : ℕ) → 0 < e → e < 257 → (r + e) * P + r * Q ≋ (r + e) * Q + r * P → P ≋ Q
ahead e P Q r p l h =
    cancel e P Q p l (by_multiples (e * P) (e * Q) (((r + e) * Q + r * P) / 257) (((r + e) * P + r * Q) / 257)
    (omega (arith, with_multiples ((r + e) * P + r * Q) ((r + e) * Q + r * P) h)))

elsewhere : (P Q x r : ℕ) → x < 257 → r < 257 → (x ≡ r → ⊥) → x * P + r * Q ≋ x * Q + r * P → P ≋ Q
elsewhere P Q x r hx hr ne h = go (dec_le r x)
  where
    go : Dec (r ≤ x) → P ≋ Q
    go (yes l) = ahead (x - r) P Q r (omega arith) (omega arith) (rw (add-sub_of_le l) h)
    go (no f) =
        let l : x ≤ r = omega arith in
        ahead (r - x) P Q x (omega arith) (omega arith) (rw (add-sub_of_le l) (ap of (omega arith) ∙ sym h ∙ ap of (omega arith)))

quotients_meet : (a b : ℕ) (fs gs : List ℕ) (x r : ℕ) → x < 257 → r < 257 → (x ≡ r → ⊥)
    → value (a ∷ fs) x ≡ value (b ∷ gs) x → value (a ∷ fs) r ≡ value (b ∷ gs) r → value (quotient fs r) x ≡ value (quotient gs r) x
quotients_meet a b fs gs x r hx hr ne ex er =
    sym (mod-eq_of_lt (value_lt (quotient fs r) x))
    ∙ elsewhere (value (quotient fs r) x) (value (quotient gs r) x) x r hx hr ne
    (cross (value (b ∷ gs) x) (value (b ∷ gs) r) (value (quotient fs r) x) (value (quotient gs r) x) x r
    (rw (← ex, ← er) (division a fs x r)) (division b gs x r))
    ∙ mod-eq_of_lt (value_lt (quotient gs r) x)

-- EQUAL QUOTIENTS, EQUAL POLYNOMIALS

-- the first coefficient is known by a value and the rest
first : (a b z : ℕ) → a < 257 → b < 257 → of (a + z) ≡ of (b + z) → a ≡ b
first a b z ha hb h = omega arith

same_cons : (a b r : ℕ) (fs gs : List ℕ) → a < 257 → b < 257 → value (a ∷ fs) r ≡ value (b ∷ gs) r → fs ≡ gs → ◌≡◌ {A = List ℕ} (a ∷ fs) (b ∷ gs)
same_cons a b r fs gs ha hb h e =
    ap₂ {C = List ℕ} (λ c cs. c ∷ cs) (first a b (r * value gs r) ha hb (rw (e, value_cons a gs r, value_cons b gs r) at h)) e

quotient_injective : (fs gs : List ℕ) (r : ℕ) → Below 257 fs → Below 257 gs → quotient fs r ≡ quotient gs r → fs ≡ gs
unfolding quotient
quotient_injective [] [] r sf sg e = refl
quotient_injective [] (b ∷ gs) r sf sg e = cc
quotient_injective (a ∷ fs) [] r sf sg e = cc
quotient_injective (a ∷ fs) (b ∷ gs) r sf sg e =
    same_cons a b r fs gs (sf 0) (sg 0) (cc) (quotient_injective fs gs r (λ i. sf (suc i)) (λ i. sg (suc i)) (cc))

-- THE LAW

meet_often : (k : ℕ) (f g : List ℕ) (n : ℕ) → n < 257 → Below 257 f → Below 257 g → length f ≡ k → length g ≡ k → k ≤ count (meet f g) n → f ≡ g
unfolding Found
meet_often zero [] [] n hn sf sg ef eg h = refl
meet_often zero [] (b ∷ gs) n hn sf sg ef eg h = absurd (omega arith)
meet_often zero (a ∷ fs) g n hn sf sg ef eg h = absurd (omega arith)
meet_often (suc k) [] g n hn sf sg ef eg h = absurd (omega arith)
meet_often (suc k) (a ∷ fs) [] n hn sf sg ef eg h = absurd (omega arith)
meet_often (suc k) (a ∷ fs) (b ∷ gs) n hn sf sg ef eg h =
    let found : Found (meet (a ∷ fs) (b ∷ gs)) n = find (meet (a ∷ fs) (b ∷ gs)) n (omega arith) in
    let r = found.0 in
    let er = eqb→eq (value (a ∷ fs) r) (value (b ∷ gs) r) found.3 in
    let others = cover (meet (a ∷ fs) (b ∷ gs)) (λ i. eqb i r) (meet (quotient fs r) (quotient gs r)) n (λ i l u p q.
    eq→eqb _ _ (quotients_meet a b fs gs i r (omega arith) (omega (arith, found.2)) (λ e. T_not (eqb i r) q (eq→eqb i r e)) (eqb→eq _ _ p) er)) in
    same_cons a b r fs gs (sf 0) (sg 0) er (quotient_injective fs gs r (λ i. sf (suc i)) (λ i. sg (suc i))
    (meet_often k (quotient fs r) (quotient gs r) n hn (quotient_below fs r) (quotient_below gs r)
    (omega (arith, quotient_length fs r)) (omega (arith, quotient_length gs r)) (omega (arith, others, count_one r n))))

-- polynomials that meet at as many points as they have coefficients are one
pub unique : (f g : List ℕ) (n : ℕ) → n < 257 → Below 257 f → Below 257 g → length f ≡ length g → length f ≤ count (meet f g) n → f ≡ g
unique f g n hn sf sg e h = meet_often (length f) f g n hn sf sg refl (sym e) h

-- so two different ones meet at fewer: of the points 1 to 256, and of the first n of them
pub apart : (f g : List ℕ) (n : ℕ) → n ≤ 256 → Below 257 f → Below 257 g → length f ≡ length g → (f ≡ g → ⊥) → count (meet f g) n < length f
apart f g n hn sf sg e ne = go (dec_lt (count (meet f g) n) (length f))
  where
    go : Dec (count (meet f g) n < length f) → count (meet f g) n < length f
    go (yes l) = l
    go (no l) = absurd (ne (unique f g n (omega arith) sf sg e (omega arith)))
