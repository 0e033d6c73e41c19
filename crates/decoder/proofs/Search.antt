-- The search: what it finds is an answer, two answers are one, and an answer is found.
use Rattle.std.proofs.Math.Path.{◌≡◌, refl}
use Rattle.std.proofs.Common.{sym, ap, ◌∙◌, zero-add, arith, le-leb, leb→le, eqb→eq}
use Rattle.std.specs.Prelude.{Bool, true, false, ◌&&◌, cond, T, leb, eqb, length}
use mathlib.Core.List.{List, [], ◌∷◌, map}
use Rattle.std.proofs.Math.Option.{Option, none, some}
use Prim.Native.Nat.{ℕ, zero, suc, ◌+◌, ◌*◌, ◌≤◌, ◌<◌}
use Rattle.std.proofs.lemmas.List.{length-map}
use Rattle.lists.specs.Lists.{bit, count, Below}
use Rattle.lists.specs.Tests.{imp, to_imp, eq→eqb, conj}
use Rattle.lists.specs.Count.{count_all, law_if}
use Rattle.block.specs.Block.{value, meet}
use Rattle.block.proofs.Apart.{unique}
use Rattle.decoder.specs.Decoder.{meets_at, hits, Answer, through, enough, or_else, seek}
use Rattle.decoder.specs.Interpolation.{Rising, On, lower, map_on, through_on, through_length, through_below}

module _ (n need k : ℕ) (y : ℕ → ℕ) where
  enough_sound : (p q : List ℕ) → length p ≡ k → Below 257 p → enough n y need p ≡ some q → Answer n need k y q
  enough_sound p q l s = go (leb need (hits p y n)) refl
    where
      go : (b : Bool) → leb need (hits p y n) ≡ b → cond b (some p) none ≡ some q → Answer n need k y q
      go true e f =
          let same : p ≡ q = cc in
          let good : Answer n need k y p = record { size = l; small = s; meets = leb→le need (hits p y n) (rw e tt) } in
          rw same at good
      go false e f = let z : ◌≡◌ {A = ℕ} 0 1 = cc in absurd (omega arith)

  seek_sound : (i j : ℕ) (xs q : List ℕ) → length xs + j ≡ k → seek n y need i j xs ≡ some q → Answer n need k y q
  unfolding seek
  seek_sound i zero xs q l e = enough_sound (through xs (map y xs)) q (omega (arith, through_length xs (map y xs) (sym (length-map xs y)))) (through_below xs (map y xs)) e
  seek_sound zero (suc j) xs q l e = let z : ◌≡◌ {A = ℕ} 0 1 = cc in absurd (omega arith)
  seek_sound (suc i) (suc j) xs q l e = go (seek n y need i j (suc i ∷ xs)) (λ r f. seek_sound i j (suc i ∷ xs) r (omega arith) f) (λ f. seek_sound i (suc j) xs q l f) refl e
    where
      go : (o : Option (List ℕ)) → ((r : List ℕ) → seek n y need i j (suc i ∷ xs) ≡ some r → Answer n need k y r) → (seek n y need i (suc j) xs ≡ some q → Answer n need k y q)
          → seek n y need i j (suc i ∷ xs) ≡ o → or_else o (seek n y need i (suc j) xs) ≡ some q → Answer n need k y q
      go none f g h e = g e
      go (some r) f g h e = f q (h ∙ e)

  -- two answers are one
  module _ (hn : n < 257) (few : need ≤ n) (room : k + n ≤ 2 * need) where
    pub one_answer : (p q : List ℕ) → Answer n need k y p → Answer n need k y q → p ≡ q
    one_answer p q a b =
        unique p q n hn a.small b.small (omega (arith, a.size, b.size))
        (omega (
          arith,
          a.size,
          a.meets,
          b.meets,
          count_all n,
          law_if (meets_at p y ∷ meets_at q y ∷ meet p q ∷ []) (λ p q r. imp (p && q) r)
              ((λ p q r. p) ∷ (λ p q r. q) ∷ []) ((λ p q r. true) ∷ (λ p q r. r) ∷ []) n tt
              (λ i l u. to_imp (meets_at p y i && meets_at q y i) (meet p q i) (λ h.
              let hp : T (eqb (value p i) (y i)) = search conj in
              let hq : T (eqb (value q i) (y i)) = search conj in
              omega (arith, eqb→eq, eq→eqb))),
        ))

    -- the polynomial that meets enough is found
    module _ (p : List ℕ) (a : Answer n need k y p) where
      enough_hit : enough n y need p ≡ some p
      enough_hit = rw (le-leb need (hits p y n) a.meets)

      seek_hit : (i j : ℕ) (xs : List ℕ) → length xs + j ≡ k → i < 257 → Rising (suc i) xs → On xs y p → j ≤ hits p y i → seek n y need i j xs ≡ some p
      unfolding seek count
      seek_hit i zero xs l hi r o h = rw (map_on xs y p o, through_on xs p (suc i) (omega (arith, a.size)) a.small r) enough_hit
      seek_hit zero (suc j) xs l hi r o h = absurd (omega arith)
      seek_hit (suc i) (suc j) xs l hi r o h =
          go (eqb (value p (suc i)) (y (suc i))) refl (seek n y need i j (suc i ∷ xs)) refl (seek_hit i j (suc i ∷ xs)) (seek_hit i (suc j) xs)
        where
          first : Option (List ℕ)
          first = seek n y need i j (suc i ∷ xs)

          rest : Option (List ℕ)
          rest = seek n y need i (suc j) xs

          go : (b : Bool) → eqb (value p (suc i)) (y (suc i)) ≡ b → (q : Option (List ℕ)) → first ≡ q
              → (suc (length xs) + j ≡ k → i < 257 → Rising (suc i) (suc i ∷ xs) → On (suc i ∷ xs) y p → j ≤ hits p y i → first ≡ some p)
              → (length xs + suc j ≡ k → i < 257 → Rising (suc i) xs → On xs y p → suc j ≤ hits p y i → rest ≡ some p)
              → or_else first rest ≡ some p
          go true e q eq f g = rw (f (omega arith) (omega arith) (omega arith, hi, r) (sym (eqb→eq (value p (suc i)) (y (suc i)) (rw e tt)), o) (omega (arith, ap bit e)))
          go false e none eq f g = rw eq (g l (omega arith) (lower (suc i) xs r) o (omega (arith, ap bit e)))
          go false e (some q) eq f g = rw eq (ap {B = Option (List ℕ)} some (one_answer q p (seek_sound i j (suc i ∷ xs) q (omega arith) eq) a))

      pub seek_finds : seek n y need n k [] ≡ some p
      seek_finds = seek_hit n k [] (rw zero-add) hn tt tt (omega (arith, a.meets))

  pub seek_answers : (q : List ℕ) → seek n y need n k [] ≡ some q → Answer n need k y q
  seek_answers q f = seek_sound n k [] q (rw zero-add) f
