-- What a column hears of what the sound columns sent. What the unsound send is not mentioned.
use Rattle.std.specs.Prelude.{◌≡◌, Bool, ◌&&◌, ℕ, ◌+◌, ◌*◌, ◌≤◌, ◌<◌}
use Rattle.std.proofs.Common.{◌∙◌, arith, eqb→eq}
use Rattle.std.proofs.Math.Bool.{not}
use Rattle.std.proofs.Math.Dec.{T, eqb}
use Rattle.lists.specs.Lists.{count}
use Rattle.lists.specs.Tests.{conj, and_both, not_not, eq→eqb}
use Rattle.lists.specs.Count.{count_not, cover, mono, none}
use Rattle.sizes.specs.Sizes.{faults, degree}
use Rattle.sizes.proofs.Laws.{columns_sized}
use Rattle.messages.specs.Messages.{times}
use Rattle.messages.specs.Wall.{Wall, Sound}

module _ {n : ℕ} {H : ℕ → Bool} (W : Wall n H) where
  pub faults_few : 3 * faults n < n
  faults_few = (columns_sized n W.low W.high).faults_few

  pub degree_few : 3 * degree n ≤ faults n
  degree_few = (columns_sized n W.low W.high).degree_few

  -- n - t columns are sound
  pub sound_most : n ≤ faults n + count H n
  sound_most = omega (arith, W.few, count_not H n)

  -- all sound columns pass
  pub enough : (Q : ℕ → Bool) → ((i : ℕ) → Sound n H i → T (Q i)) → n ≤ faults n + count Q n
  enough Q h = omega (arith, sound_most, mono H Q n (λ i l u hi. h i (l, u, hi)))

  -- what was received, R, where the sound columns sent s
  module _ (R s : ℕ → ℕ) (h : (j : ℕ) → Sound n H j → R j ≡ s j) where
    pub heard_most : (v : ℕ) → times R v n ≤ count (λ j. not (H j)) n + count (λ j. H j && eqb (s j) v) n
    unfolding times
    heard_most v = cover (λ j. eqb (R j) v) (λ j. not (H j)) (λ j. H j && eqb (s j) v) n (λ j l u r k.
        let hj : T (H j) = not_not (H j) k in
        and_both (H j) (eqb (s j) v) hj (rw (h j (l, u, hj)) at r))

    pub heard_least : (v : ℕ) → count (λ j. H j && eqb (s j) v) n ≤ times R v n
    unfolding times
    heard_least v = mono (λ j. H j && eqb (s j) v) (λ j. eqb (R j) v) n (λ j l u k.
        let hj : T (H j) = search conj in
        let sj : T (eqb (s j) v) = search conj in
        rw (h j (l, u, hj)) sj)

    -- no sound column sent v
    pub unheard : (v : ℕ) → ((j : ℕ) → Sound n H j → s j ≡ v → ⊥) → times R v n ≤ faults n
    unheard v f = omega (
      arith,
      W.few,
      heard_most v,
      none (λ j. H j && eqb (s j) v) n (λ j l u k.
          let hj : T (H j) = search conj in
          let sj : T (eqb (s j) v) = search conj in
          f j (l, u, hj) (eqb→eq (s j) v sj)),
    )

    -- every sound column sent v
    pub same_heard : (v : ℕ) → ((j : ℕ) → Sound n H j → s j ≡ v) → n ≤ faults n + times R v n
    unfolding times
    same_heard v e = enough (λ j. eqb (R j) v) (λ j sj. eq→eqb (R j) v (h j sj ∙ e j sj))
