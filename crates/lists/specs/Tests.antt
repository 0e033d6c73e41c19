-- What a test, a Bool, says: `T b` is that it passes.
use Rattle.std.specs.Prelude.{◌≡◌, refl, Bool, true, false, not, ◌&&◌, ◌||◌, cond, ℕ, ◌≤◌, ◌<◌, T, eqb, ltb}
use Rattle.std.proofs.Common.{arith, lt→ltb}
use Rattle.std.proofs.Math.Decide.{dec_lt}
use Rattle.std.proofs.Math.Dec.{eqb_refl}

abbrev pub imp : Bool → Bool → Bool
imp true b = b
imp false b = true

pub to_imp : (a b : Bool) → (T a → T b) → T (imp a b)
to_imp true b f = f tt
to_imp false b f = tt

pub from_imp : (a b : Bool) → T (imp a b) → T a → T b
from_imp true b t s = t
from_imp false b t s = absurd s

pub and_left : (a b : Bool) → T (a && b) → T a
and_left true b t = tt
and_left false b t = t

pub and_right : (a b : Bool) → T (a && b) → T b
and_right true b t = t
and_right false b t = absurd t

pub ruleset conj = (and_left, and_right)

pub and_both : (a b : Bool) → T a → T b → T (a && b)
and_both true b s t = t
and_both false b s t = absurd s

pub or_left : (a b : Bool) → T a → T (a || b)
or_left true b t = tt
or_left false b t = absurd t

pub or_right : (a b : Bool) → T b → T (a || b)
or_right true b t = tt
or_right false b t = t

-- below n, or else what holds from n on
pub or_past : (i n : ℕ) (b : Bool) → (n ≤ i → T b) → T (ltb i n || b)
or_past i n b h = go (dec_lt i n)
  where
    go : Dec (i < n) → T (ltb i n || b)
    go (yes l) = or_left (ltb i n) b (lt→ltb i n l)
    go (no l) = or_right (ltb i n) b (h (omega arith))

pub not_not : (b : Bool) → T (not (not b)) → T b
not_not true t = tt
not_not false t = t

pub by_contra : (b : Bool) → ((T b → ⊥) → ⊥) → T b
by_contra true f = tt
by_contra false f = f (λ x. x)

-- a test that passes is true, and the other way round
pub is_true : (b : Bool) → T b → b ≡ true
is_true true t = refl
is_true false t = absurd t

pub passes : (b : Bool) → b ≡ true → T b
passes b e = rw e tt

pub is_false : (b : Bool) → (T b → ⊥) → b ≡ false
is_false true f = absurd (f tt)
is_false false f = refl

-- either of two small numbers is small
pub either_lt : (b : Bool) (x y k : ℕ) → x < k → y < k → cond b x y < k
either_lt true x y k h g = h
either_lt false x y k h g = g

-- two tests of which each passes with the other are one
pub T_ext : (a b : Bool) → (T a → T b) → (T b → T a) → a ≡ b
T_ext true true f g = refl
T_ext true false f g = absurd (f tt)
T_ext false true f g = absurd (g tt)
T_ext false false f g = refl

pub eq→eqb : (a b : ℕ) → a ≡ b → T (eqb a b)
eq→eqb a b e = rw e (eqb_refl b)
