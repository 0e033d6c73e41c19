-- The first places that pass a test, one after the other, and that there are as many as the count of those that pass.
use Rattle.std.specs.Prelude.{◌≡◌, Bool, not, ◌&&◌, List, [], ◌∷◌, ℕ, zero, suc, ◌+◌, ◌-◌, ◌≤◌, ◌<◌, T, leb, eqb, ltb, length, get_or, take}
use Rattle.std.proofs.Math.Decide.{dec_le}
use Rattle.std.proofs.Common.{arith, T_not, leb→le, le→leb}
use Rattle.lists.specs.Lists.{count}
use Rattle.lists.specs.Tests.{and_left, and_right, and_both, eq→eqb}
use Rattle.lists.specs.Count.{none, cover, count_one}
use Rattle.messages.specs.Messages.{from as at}
use Rattle.decoder.specs.Interpolation.{Rising}

-- the point at place x is not blank
abbrev pub present_at : List ℕ → ℕ → Bool
present_at points x = ltb (at points x) 257

-- and the locator is not 0 there
abbrev pub usable : List ℕ → List ℕ → ℕ → Bool
usable points es x = present_at points x && not (eqb (get_or es (x - 1) 0) 0)

-- x is the first place from `from` on that passes, if it is one of 32
pub record Next (P : ℕ → Bool) (from x : ℕ) : Type 0 where
  pub later : from ≤ x
  pub skipped : (i : ℕ) → from ≤ i → i < x → T (P i) → ⊥
  pub passes : x ≤ 32 → T (P x)

abbrev pub Chain : (ℕ → Bool) → ℕ → List ℕ → Type 0
Chain P from [] = Unit {0}
Chain P from (x ∷ xs) = Next P from x × Chain P (suc x) xs

pub chain_take : (P : ℕ → Bool) (k from : ℕ) (xs : List ℕ) → Chain P from xs → Chain P from (take k xs)
chain_take P zero from xs c = tt
chain_take P (suc k) from [] c = tt
chain_take P (suc k) from (x ∷ xs) c = (c.0, chain_take P k (suc x) xs c.1)

-- each of the places is one of 32 and passes
abbrev pub Chosen : (ℕ → Bool) → List ℕ → Type 0
Chosen P [] = Unit {0}
Chosen P (x ∷ xs) = (x ≤ 32) × T (P x) × Chosen P xs

-- those that pass from a place on
abbrev From : (ℕ → Bool) → ℕ → ℕ → Bool
From P from i = leb from i && P i

none_left : (P : ℕ → Bool) (from x : ℕ) → Next P from x → 32 < x → count (From P from) 32 ≡ 0
none_left P from x h l =
    none (From P from) 32 (λ i a u t. h.skipped i (leb→le from i (and_left (leb from i) (P i) t)) (omega arith) (and_right (leb from i) (P i) t))

one_less : (P : ℕ → Bool) (from x : ℕ) → Next P from x → count (From P from) 32 ≤ 1 + count (From P (suc x)) 32
one_less P from x h =
    omega (
      arith,
      count_one x 32,
      cover (From P from) (λ i. eqb i x) (From P (suc x)) 32 (λ i a u t z.
          and_both (leb (suc x) i) (P i) (le→leb (suc x) i (after i t z (dec_le (suc x) i))) (and_right (leb from i) (P i) t)),
    )
  where
    after : (i : ℕ) → T (From P from i) → T (not (eqb i x)) → Dec (suc x ≤ i) → suc x ≤ i
    after i t z (yes l) = l
    after i t z (no l) =
        let ne : i ≡ x → ⊥ = λ e. T_not (eqb i x) z (eq→eqb i x e) in
        absurd (h.skipped i (leb→le from i (and_left (leb from i) (P i) t)) (omega (arith, ne)) (and_right (leb from i) (P i) t))

-- as many as pass are chosen, and they rise
pub chain_chosen : (P : ℕ → Bool) (xs : List ℕ) (from : ℕ) → Chain P from xs → length xs ≤ count (From P from) 32 → Chosen P xs × Rising from xs
chain_chosen P [] from c h = (tt, tt)
chain_chosen P (x ∷ xs) from c h = go (dec_le x 32) (chain_chosen P xs (suc x) c.1)
  where
    go : Dec (x ≤ 32) → (length xs ≤ count (From P (suc x)) 32 → Chosen P xs × Rising (suc x) xs) → Chosen P (x ∷ xs) × Rising from (x ∷ xs)
    go (yes l) rest =
        let r = rest (omega (arith, one_less P from x c.0)) in
        ((l, c.0.passes l, r.0), (c.0.later, omega arith, r.1))
    go (no l) rest = absurd (omega (arith, none_left P from x c.0 (omega arith)))
