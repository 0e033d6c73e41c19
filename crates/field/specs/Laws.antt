-- The laws of the field: those of a commutative ring, inverses, no zero divisors.
use Rattle.std.specs.Prelude.{◌≡◌, refl, ◌⊎◌, Bool, true, ◌&&◌, List, ℕ, zero, suc, ◌+◌, ◌-◌, ◌*◌, ◌<◌, T, eqb, ltb, get_or}
use Rattle.std.proofs.Common.{sym, ap, ◌∙◌, inl, inr, mod-lt, mod-eq_of_lt, eq-zero-or-pos, mul_comm, mul_assoc, arith, eqb→eq, ltb→lt, lit<}
use Rattle.lists.specs.Lists.{all}
use Rattle.lists.specs.Entries.{all_each}
use Rattle.lists.specs.Tests.{and_left, and_right, passes, either_lt}
use Rattle.field.specs.Field.{of, add, subtract, multiply, inverse, inverse_below, inverse_entry, inverse_table}
use Rattle.field.specs.Congruence.{◌≋◌, reduce, scale, times}

-- A COMMUTATIVE RING

pub add_comm : (a b : ℕ) → add a b ≡ add b a
add_comm a b = omega arith

pub add_assoc : (a b c : ℕ) → add (add a b) c ≡ add a (add b c)
add_assoc a b c = omega arith

pub add_zero : (a : ℕ) → add a 0 ≡ of a
add_zero a = omega arith

pub subtract_add : (a b : ℕ) → add (subtract a b) b ≡ of a
subtract_add a b = omega arith

pub multiply_comm : (a b : ℕ) → multiply a b ≡ multiply b a
multiply_comm a b = ap of (mul_comm a b)

pub multiply_assoc : (a b c : ℕ) → multiply (multiply a b) c ≡ multiply a (multiply b c)
multiply_assoc a b c =
    times (multiply a b) (a * b) c c (reduce (a * b)) refl ∙ ap of (mul_assoc a b c) ∙ sym (scale a (multiply b c) (b * c) (reduce (b * c)))

pub multiply_one : (a : ℕ) → multiply a 1 ≡ of a
multiply_one a = ap of (omega arith)

pub multiply_add : (a b c : ℕ) → multiply a (add b c) ≡ add (multiply a b) (multiply a c)
multiply_add a b c = scale a (add b c) (b + c) (reduce (b + c)) ∙ omega arith

-- each call takes its numbers modulo 257
pub add_of : (a b : ℕ) → add (of a) (of b) ≡ add a b
add_of a b = omega arith

pub multiply_of : (a b : ℕ) → multiply (of a) (of b) ≡ multiply a b
multiply_of a b = times (of a) a (of b) b (reduce a) (reduce b)

-- a plus b times c with one division
pub add_product : (a b c : ℕ) → add a (multiply b c) ≡ of (a + b * c)
add_product a b c = omega arith

-- INVERSES

leaves_one : ℕ → Bool
leaves_one k = eqb (multiply (k + 1) (inverse (k + 1))) 1

-- a number that is not 0 times its inverse leaves 1: computed at each of the 256
pub inverse_small : (x : ℕ) → 0 < x → x < 257 → multiply x (inverse x) ≡ 1
unfolding all leaves_one inverse inverse_below
inverse_small x h l =
    let e : x - 1 + 1 ≡ x = omega arith in
    rw e at (eqb→eq (multiply (x - 1 + 1) (inverse (x - 1 + 1))) 1 (all_each leaves_one 256 tt (x - 1) (omega arith)))

below_of : (x n : ℕ) → inverse_below (of x) n ≡ inverse_below x n
unfolding inverse_below
below_of x zero = refl
below_of x (suc y) = rw (times (of x) x y y (reduce x) refl, below_of x y)

pub inverse_of : (x : ℕ) → inverse (of x) ≡ inverse x
unfolding inverse
inverse_of x = below_of x 257

below_lt : (x n : ℕ) → inverse_below x (suc n) < suc n
unfolding inverse_below
below_lt x zero = either_lt (eqb (multiply x 0) 1) 0 0 1 (omega arith) (omega arith)
below_lt x (suc n) = either_lt (eqb (multiply x (suc n)) 1) (suc n) (inverse_below x (suc n)) (suc (suc n)) (omega arith) (omega (arith, below_lt x n))

pub inverse_lt : (x : ℕ) → inverse x < 257
unfolding inverse
inverse_lt x = below_lt x 256

pub inverse_law : (x : ℕ) → 0 < of x → multiply x (inverse x) ≡ 1
inverse_law x h =
    times x (of x) (inverse x) (inverse (of x)) (sym (reduce x)) (ap of (sym (inverse_of x))) ∙ inverse_small (of x) h (mod-lt x (lit< tt))

-- 0 has the inverse 0
pub inverse_zero : (x : ℕ) → of x ≡ 0 → inverse x ≡ 0
unfolding inverse inverse_below
inverse_zero x h = sym (inverse_of x) ∙ rw h

-- what leaves 1 is the inverse
pub inverse_unique : (x y : ℕ) → y < 257 → multiply x y ≡ 1 → y ≡ inverse x
inverse_unique x y l h =
    sym (mod-eq_of_lt l)
    ∙ sym (once y (x * inverse x) (inverse_law x (nonzero (eq-zero-or-pos (of x)))))
    ∙ ap of (omega arith)
    ∙ once (inverse x) (x * y) h
    ∙ mod-eq_of_lt (inverse_lt x)
  where
    nonzero : (of x ≡ 0) ⊎ (0 < of x) → 0 < of x
    nonzero (inl z) =
        let w : multiply x y ≡ 0 = times x 0 y y z refl ∙ omega arith in
        absurd (omega arith)
    nonzero (inr p) = p

    -- times a number that leaves 1
    once : (a b : ℕ) → of b ≡ 1 → a * b ≋ a
    once a b e = scale a b 1 e ∙ multiply_one a

-- an entry of the table is the inverse of its number
pub table_entry : (table : List ℕ) → inverse_table table ≡ true → (x : ℕ) → 0 < x → x < 257 → get_or table (x - 1) 0 ≡ inverse x
unfolding inverse_table inverse_entry
table_entry table h x p l =
    let e : x - 1 + 1 ≡ x = omega arith in
    let y : ℕ = get_or table (x - 1) 0 in
    let t : T (ltb y 257 && eqb (multiply (x - 1 + 1) y) 1) = all_each (inverse_entry table) 256 (passes (all (inverse_entry table) 256) h) (x - 1) (omega arith) in
    inverse_unique x y (ltb→lt y 257 (and_left (ltb y 257) (eqb (multiply (x - 1 + 1) y) 1) t))
    (ap (λ (z : ℕ). multiply z y) (sym e) ∙ eqb→eq (multiply (x - 1 + 1) y) 1 (and_right (ltb y 257) (eqb (multiply (x - 1 + 1) y) 1) t))

-- a number that is not 0 can be cancelled
pub cancel : (e a b : ℕ) → 0 < e → e < 257 → e * a ≋ e * b → a ≋ b
cancel e a b p l h = sym (once a) ∙ scale (inverse e) (e * a) (e * b) h ∙ once b
  where
    -- the inverse takes e away
    once : (c : ℕ) → inverse e * (e * c) ≋ c
    once c = ap of (omega arith) ∙ times (e * inverse e) 1 c c (inverse_small e p l) refl ∙ ap of (omega arith)

-- a product is 0 only where a factor is
pub no_zero_divisors : (a b : ℕ) → multiply a b ≡ 0 → (of a ≡ 0) ⊎ (of b ≡ 0)
no_zero_divisors a b h = go (eq-zero-or-pos (of a))
  where
    go : (of a ≡ 0) ⊎ (0 < of a) → (of a ≡ 0) ⊎ (of b ≡ 0)
    go (inl z) = inl z
    go (inr p) = inr (cancel (of a) b 0 p (mod-lt a (lit< tt)) (times (of a) a b b (reduce a) refl ∙ h ∙ omega arith))
