-- Equal modulo 257, on unreduced numbers. A congruence is crossed with an equation that names the multiples of 257, and back;
-- `omega` does what lies between.
use Rattle.std.specs.Prelude.{◌≡◌, ℕ, ◌+◌, ◌-◌, ◌*◌, ◌/◌, ◌%◌}
use Rattle.std.proofs.Common.{sym, ap, ◌∙◌, mul_comm, arith}
use Rattle.std.proofs.Math.Nat.{mod-mod, add-mul-mod_self_left}

abbrev pub ◌≋◌ : ℕ → ℕ → Type 0
a ≋ b = a % 257 ≡ b % 257

infix 20 ◌≋◌
pub with_multiples : (a b : ℕ) → a ≋ b → a + 257 * (b / 257) ≡ b + 257 * (a / 257)
with_multiples a b h = omega arith

pub by_multiples : (a b p q : ℕ) → a + 257 * p ≡ b + 257 * q → a ≋ b
by_multiples a b p q e = sym (add-mul-mod_self_left a 257 p) ∙ ap (λ (z : ℕ). z % 257) e ∙ add-mul-mod_self_left b 257 q

pub reduce : (a : ℕ) → a % 257 ≋ a
reduce a = mod-mod a 257

pub plus : (a a' b b' : ℕ) → a ≋ a' → b ≋ b' → a + b ≋ a' + b'
plus a a' b b' h k =
    by_multiples (a + b) (a' + b') (a' / 257 + b' / 257) (a / 257 + b / 257) (omega (arith, with_multiples a a' h, with_multiples b b' k))

pub scale : (c a b : ℕ) → a ≋ b → c * a ≋ c * b
scale c a b h =
    by_multiples (c * a) (c * b) (c * (b / 257)) (c * (a / 257)) (omega (arith, ap (λ (z : ℕ). c * z) (with_multiples a b h)))

pub times : (a a' b b' : ℕ) → a ≋ a' → b ≋ b' → a * b ≋ a' * b'
times a a' b b' h k =
    scale a b b' k ∙ ap (λ (z : ℕ). z % 257) (mul_comm a b') ∙ scale b' a a' h ∙ ap (λ (z : ℕ). z % 257) (mul_comm b' a')

-- a sum of reduced products
pub products : (a b c d : ℕ) → a * b % 257 + c * d % 257 ≋ a * b + c * d
products a b c d = omega arith

-- 65536 leaves 1, and 256 leaves -1
pub near : (x : ℕ) → x % 65536 % 256 + x / 65536 + 257 - x % 65536 / 256 ≋ x
near x =
    by_multiples (x % 65536 % 256 + x / 65536 + 257 - x % 65536 / 256) x (255 * (x / 65536) + x % 65536 / 256) 1 (omega arith)
