-- Interpolation: the polynomial through k values of a polynomial of k coefficients is that polynomial.
use Rattle.std.specs.Prelude.{◌≡◌, refl, List, [], ◌∷◌, map, ℕ, zero, suc, ◌+◌, ◌-◌, ◌*◌, ◌/◌, ◌%◌, ◌≤◌, ◌<◌, length}
use Rattle.std.proofs.Common.{ap, ap₂, ◌∙◌, mod-lt, mod-eq_of_lt, arith, lit<}
use Rattle.lists.specs.Lists.{Below}
use Rattle.field.specs.Field.{of, subtract, multiply, inverse}
use Rattle.field.specs.Congruence.{◌≋◌, with_multiples, by_multiples, times}
use Rattle.field.specs.Laws.{inverse_small}
use Rattle.block.specs.Block.{value}
use Rattle.block.proofs.Values.{value_lt, value_cons}
use Rattle.block.proofs.Apart.{quotient, quotient_length, quotient_below, division}
use Rattle.decoder.specs.Decoder.{slope, slopes, under, through}

back : (a z : ℕ) → a < 257 → subtract (of (a + z)) (of z) ≡ a
back a z h = omega arith

under_quotient : (a : ℕ) (cs : List ℕ) (r : ℕ) → Below 257 (a ∷ cs) → under (value (a ∷ cs) r) r (quotient cs r) ≡ a ∷ cs
unfolding under quotient value
under_quotient a [] r s = ap {B = List ℕ} (λ z. z ∷ []) (omega (arith, s 0))
under_quotient a (c ∷ cs) r s =
    ap₂ {C = List ℕ} (λ z zs. z ∷ zs) (ap (λ (z : ℕ). subtract z (multiply r (value (c ∷ cs) r))) (value_cons a (c ∷ cs) r) ∙ back a (r * value (c ∷ cs) r) (s 0))
    (under_quotient c cs r (λ i. s (suc i)))

subtract_plus : (p q : ℕ) → subtract p q + q ≋ p
subtract_plus p q = omega arith

slope_core : (F G Q x r u e : ℕ) → F + r * Q ≋ G + x * Q → u + G ≋ F → e + r ≋ x → u ≋ e * Q
slope_core F G Q x r u e h k l =
    by_multiples u (e * Q) ((G + x * Q) / 257 + F / 257 + (e + r) / 257 * Q) ((F + r * Q) / 257 + (u + G) / 257 + x / 257 * Q)
    (omega (arith, with_multiples (F + r * Q) (G + x * Q) h, with_multiples (u + G) F k, ap (λ (z : ℕ). z * Q) (with_multiples (e + r) x l)))

divide : (u e Q : ℕ) → 0 < e → e < 257 → u ≋ e * Q → Q < 257 → u * inverse e % 257 ≡ Q
divide u e Q p l h s =
    times u (e * Q) (inverse e) (inverse e) h refl ∙ ap (λ (z : ℕ). z % 257) (omega arith) ∙ times (e * inverse e) 1 Q Q (inverse_small e p l ∙ refl) refl
    ∙ ap (λ (z : ℕ). z % 257) (omega arith) ∙ mod-eq_of_lt s

subtract_pos : (x r : ℕ) → x < 257 → r < 257 → (x ≡ r → ⊥) → 0 < subtract x r
subtract_pos x r hx hr ne = omega arith

slope_is : (a : ℕ) (cs : List ℕ) (x r : ℕ) → x < 257 → r < 257 → (x ≡ r → ⊥) → slope r (value (a ∷ cs) r) x (value (a ∷ cs) x) ≡ value (quotient cs r) x
slope_is a cs x r hx hr ne =
    let F : ℕ = value (a ∷ cs) x in
    let G : ℕ = value (a ∷ cs) r in
    divide (subtract F G) (subtract x r) (value (quotient cs r) x) (subtract_pos x r hx hr ne) (mod-lt (x + (257 - r % 257)) (lit< tt))
    (slope_core F G (value (quotient cs r) x) x r (subtract F G) (subtract x r) (division a cs x r) (subtract_plus F G) (subtract_plus x r))
    (value_lt (quotient cs r) x)

-- the places of a list are at least b, rising, and below 257
abbrev pub Rising : ℕ → List ℕ → Type 0
Rising b [] = Unit {0}
Rising b (x ∷ xs) = (b ≤ x) × (x < 257) × Rising (suc x) xs

pub lower : (b : ℕ) (xs : List ℕ) → Rising (suc b) xs → Rising b xs
lower b [] r = tt
lower b (x ∷ xs) r = (omega arith, r.1, r.2)

-- the slopes of a polynomial are the values of its quotient
slopes_on : (a : ℕ) (cs : List ℕ) (r b : ℕ) (xs : List ℕ) → r < 257 → r < b → Rising b xs
    → slopes r (value (a ∷ cs) r) xs (map (value (a ∷ cs)) xs) ≡ map (value (quotient cs r)) xs
unfolding slopes
slopes_on a cs r b [] hr l h = refl
slopes_on a cs r b (x ∷ xs) hr l h =
    ap₂ {C = List ℕ} (λ z zs. z ∷ zs) (slope_is a cs x r h.1 hr (λ e. omega arith)) (slopes_on a cs r (suc x) xs hr (omega arith) h.2)

pub through_on : (xs p : List ℕ) (b : ℕ) → length p ≡ length xs → Below 257 p → Rising b xs → through xs (map (value p) xs) ≡ p
unfolding through
through_on [] [] b e s h = refl
through_on [] (a ∷ cs) b e s h = absurd (omega arith)
through_on (r ∷ rs) [] b e s h = absurd (omega arith)
through_on (r ∷ rs) (a ∷ cs) b e s h =
    ap (λ (vs : List ℕ). under (value (a ∷ cs) r) r (through rs vs)) (slopes_on a cs r (suc r) rs h.1 (omega arith) h.2)
    ∙ rw (through_on rs (quotient cs r) (suc r) (omega (arith, quotient_length cs r)) (quotient_below cs r) h.2) (under_quotient a cs r s)

pub under_length : (v r : ℕ) (es : List ℕ) → length (under v r es) ≡ suc (length es)
unfolding under
under_length v r [] = refl
under_length v r (e ∷ es) = ap suc (under_length e r es)

under_below : (v r : ℕ) (es : List ℕ) → Below 257 (under v r es)
unfolding under
under_below v r [] zero = mod-lt v (lit< tt)
under_below v r [] (suc i) = lit< tt
under_below v r (e ∷ es) zero = mod-lt (v + (257 - multiply r e % 257)) (lit< tt)
under_below v r (e ∷ es) (suc i) = under_below e r es i

length_slopes : (r v : ℕ) (xs vs : List ℕ) → length xs ≡ length vs → length (slopes r v xs vs) ≡ length vs
unfolding slopes
length_slopes r v [] vs e = e
length_slopes r v (x ∷ xs) [] e = refl
length_slopes r v (x ∷ xs) (u ∷ vs) e = ap suc (length_slopes r v xs vs (omega arith))

pub through_length : (xs vs : List ℕ) → length xs ≡ length vs → length (through xs vs) ≡ length xs
unfolding through
through_length [] vs e = refl
through_length (r ∷ xs) [] e = absurd (omega arith)
through_length (r ∷ xs) (v ∷ vs) e =
    under_length v r (through xs (slopes r v xs vs)) ∙ ap suc (through_length xs (slopes r v xs vs) (omega (arith, length_slopes r v xs vs (omega arith))))

pub through_below : (xs vs : List ℕ) → Below 257 (through xs vs)
unfolding through
through_below [] vs i = lit< tt
through_below (r ∷ xs) [] i = lit< tt
through_below (r ∷ xs) (v ∷ vs) i = under_below v r (through xs (slopes r v xs vs)) i

-- y has p's values at the places of a list
abbrev pub On : List ℕ → (ℕ → ℕ) → List ℕ → Type 0
On [] y p = Unit {0}
On (x ∷ xs) y p = (y x ≡ value p x) × On xs y p

pub map_on : (xs : List ℕ) (y : ℕ → ℕ) (p : List ℕ) → On xs y p → map y xs ≡ map (value p) xs
map_on [] y p o = refl
map_on (x ∷ xs) y p o = ap₂ {C = List ℕ} (λ z zs. z ∷ zs) o.0 (map_on xs y p o.1)
