-- Sums and products of polynomials, for arguments about decoding: their values and how many coefficients they have.
use Rattle.std.specs.Prelude.{◌≡◌, refl, List, [], ◌∷◌, ℕ, zero, suc, ◌+◌, ◌-◌, ◌*◌, ◌≤◌, ◌<◌, T, length}
use Rattle.std.proofs.Common.{sym, ap, ◌∙◌, mod-lt, zero-mul, mul-zero, zero-add, arith, eqb→eq, lit<}
use Rattle.lists.specs.Lists.{count, Below}
use Rattle.lists.specs.Tests.{eq→eqb}
use Rattle.lists.specs.Count.{mono}
use Rattle.field.specs.Field.{of}
use Rattle.field.specs.Congruence.{◌≋◌, plus, reduce, scale as scaled_by, times}
use Rattle.block.specs.Block.{value, meet}
use Rattle.block.proofs.Values.{value_cons}
use Rattle.block.proofs.Apart.{unique}

-- the value as a whole number, not reduced
unfoldable pub whole : List ℕ → ℕ → ℕ
whole [] x = 0
whole (c ∷ cs) x = c + x * whole cs x

unfoldable pub sum : List ℕ → List ℕ → List ℕ
sum [] g = g
sum (a ∷ f) [] = a ∷ f
sum (a ∷ f) (b ∷ g) = (a + b) ∷ sum f g

unfoldable pub scale : ℕ → List ℕ → List ℕ
scale a [] = []
scale a (b ∷ g) = (a * b) ∷ scale a g

unfoldable pub product : List ℕ → List ℕ → List ℕ
product [] g = []
product (a ∷ f) g = sum (scale a g) (0 ∷ product f g)

-- times (x - r), for r up to 257
unfoldable pub raised : ℕ → List ℕ → List ℕ
raised r [] = []
raised r (a ∷ f) = sum (scale (257 - r) (a ∷ f)) (0 ∷ a ∷ f)

-- VALUES

pub value_whole : (f : List ℕ) (x : ℕ) → value f x ≡ of (whole f x)
unfolding value whole
value_whole [] x = refl
value_whole (c ∷ cs) x =
    value_cons c cs x ∙ rw (value_whole cs x) (plus c c (x * of (whole cs x)) (x * whole cs x) refl (scaled_by x (of (whole cs x)) (whole cs x) (reduce (whole cs x))))

-- back from whole values
lowered : (f : List ℕ) (x : ℕ) → value f x ≋ whole f x
lowered f x = ap of (value_whole f x) ∙ reduce (whole f x)

whole_sum : (f g : List ℕ) (x : ℕ) → whole (sum f g) x ≡ whole f x + whole g x
unfolding whole sum
whole_sum [] g x = sym (zero-add (whole g x))
whole_sum (a ∷ f) [] x = omega arith
whole_sum (a ∷ f) (b ∷ g) x = omega (arith, ap (λ (z : ℕ). x * z) (whole_sum f g x))

whole_scale : (a : ℕ) (g : List ℕ) (x : ℕ) → whole (scale a g) x ≡ a * whole g x
unfolding whole scale
whole_scale a [] x = sym (mul-zero a)
whole_scale a (b ∷ g) x = omega (arith, ap (λ (z : ℕ). x * z) (whole_scale a g x))

whole_product : (f g : List ℕ) (x : ℕ) → whole (product f g) x ≡ whole f x * whole g x
unfolding whole product
whole_product [] g x = sym (zero-mul (whole g x))
whole_product (a ∷ f) g x =
    whole_sum (scale a g) (0 ∷ product f g) x ∙ omega (arith, whole_scale a g x, ap (λ (z : ℕ). x * z) (whole_product f g x))

whole_raised : (r : ℕ) (f : List ℕ) (x : ℕ) → whole (raised r f) x ≡ (x + (257 - r)) * whole f x
unfolding whole raised
whole_raised r [] x = sym (mul-zero (x + (257 - r)))
whole_raised r (a ∷ f) x =
    whole_sum (scale (257 - r) (a ∷ f)) (0 ∷ a ∷ f) x ∙ omega (arith, whole_scale (257 - r) (a ∷ f) x)

pub value_sum : (f g : List ℕ) (x : ℕ) → value (sum f g) x ≋ value f x + value g x
value_sum f g x =
    lowered (sum f g) x ∙ ap of (whole_sum f g x) ∙ sym (plus (value f x) (whole f x) (value g x) (whole g x) (lowered f x) (lowered g x))

pub value_scale : (a : ℕ) (g : List ℕ) (x : ℕ) → value (scale a g) x ≋ a * value g x
value_scale a g x = lowered (scale a g) x ∙ ap of (whole_scale a g x) ∙ sym (scaled_by a (value g x) (whole g x) (lowered g x))

pub value_product : (f g : List ℕ) (x : ℕ) → value (product f g) x ≋ value f x * value g x
value_product f g x =
    lowered (product f g) x ∙ ap of (whole_product f g x) ∙ sym (times (value f x) (whole f x) (value g x) (whole g x) (lowered f x) (lowered g x))

pub value_raised : (r : ℕ) (f : List ℕ) (x : ℕ) → value (raised r f) x ≋ (x + (257 - r)) * value f x
value_raised r f x =
    lowered (raised r f) x ∙ ap of (whole_raised r f x) ∙ sym (scaled_by (x + (257 - r)) (value f x) (whole f x) (lowered f x))

-- LENGTHS

pub length_sum : (f g : List ℕ) (m : ℕ) → length f ≤ m → length g ≤ m → length (sum f g) ≤ m
unfolding sum
length_sum [] g m h k = k
length_sum (a ∷ f) [] m h k = h
length_sum (a ∷ f) (b ∷ g) zero h k = absurd (omega arith)
length_sum (a ∷ f) (b ∷ g) (suc m) h k = omega (arith, length_sum f g m (omega arith) (omega arith))

pub length_scale : (a : ℕ) (g : List ℕ) → length (scale a g) ≡ length g
unfolding scale
length_scale a [] = refl
length_scale a (b ∷ g) = ap suc (length_scale a g)

pub length_product : (f g : List ℕ) → length (product f g) ≤ length f + length g
unfolding product
length_product [] g = omega arith
length_product (a ∷ f) g =
    length_sum (scale a g) (0 ∷ product f g) (suc (length f) + length g) (omega (arith, length_scale a g)) (omega (arith, length_product f g))

-- one coefficient more, but none stays none
pub length_raised : (r : ℕ) (f : List ℕ) → length (raised r f) ≤ suc (length f)
unfolding raised
length_raised r [] = omega arith
length_raised r (a ∷ f) =
    length_sum (scale (257 - r) (a ∷ f)) (0 ∷ a ∷ f) (suc (suc (length f))) (omega (arith, length_scale (257 - r) (a ∷ f))) (omega arith)

pub length_raised_none : (r : ℕ) (f : List ℕ) → length f ≡ 0 → length (raised r f) ≡ 0
unfolding raised
length_raised_none r [] e = refl
length_raised_none r (a ∷ f) e = absurd (omega arith)

-- POLYNOMIALS OF AT MOST k COEFFICIENTS

-- k coefficients below 257
unfoldable fit : ℕ → List ℕ → List ℕ
fit zero f = []
fit (suc k) [] = 0 ∷ fit k []
fit (suc k) (a ∷ f) = of a ∷ fit k f

length_fit : (k : ℕ) (f : List ℕ) → length (fit k f) ≡ k
unfolding fit
length_fit zero f = refl
length_fit (suc k) [] = ap suc (length_fit k [])
length_fit (suc k) (a ∷ f) = ap suc (length_fit k f)

below_fit : (k : ℕ) (f : List ℕ) → Below 257 (fit k f)
unfolding fit
below_fit zero f i = lit< tt
below_fit (suc k) [] zero = lit< tt
below_fit (suc k) [] (suc i) = below_fit k [] i
below_fit (suc k) (a ∷ f) zero = mod-lt a (lit< tt)
below_fit (suc k) (a ∷ f) (suc i) = below_fit k f i

value_fit : (k : ℕ) (f : List ℕ) (x : ℕ) → length f ≤ k → value (fit k f) x ≡ value f x
unfolding fit value
value_fit zero [] x h = refl
value_fit zero (a ∷ f) x h = absurd (omega arith)
value_fit (suc k) [] x h = rw (value_fit k [] x (omega arith)) (omega arith)
value_fit (suc k) (a ∷ f) x h = rw (value_fit k f x (omega arith)) (omega arith)

-- two that meet at k points have one value everywhere
pub same_values : (k n : ℕ) (f g : List ℕ) → n < 257 → length f ≤ k → length g ≤ k → k ≤ count (meet f g) n → (x : ℕ) → value f x ≡ value g x
same_values k n f g hn hf hg h x =
    sym (value_fit k f x hf) ∙ ap (λ (p : List ℕ). value p x) same ∙ value_fit k g x hg
  where
    fitted : (i : ℕ) → 1 ≤ i → i ≤ n → T (meet f g i) → T (meet (fit k f) (fit k g) i)
    fitted i l u t = eq→eqb _ _ (value_fit k f i hf ∙ eqb→eq (value f i) (value g i) t ∙ sym (value_fit k g i hg))

    same : fit k f ≡ fit k g
    same =
        unique (fit k f) (fit k g) n hn (below_fit k f) (below_fit k g) (length_fit k f ∙ sym (length_fit k g))
        (omega (arith, length_fit k f, mono (meet f g) (meet (fit k f) (fit k g)) n fitted))
