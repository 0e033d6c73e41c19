-- Two rounds of the courses that are points and kept points are a run of data dissemination, so Theorem 3.9 speaks of what the columns
-- end on.
use Rattle.std.specs.Prelude.{◌≡◌, Bool, false, List, ℕ, suc, ◌≤◌, T, leb}
use Rattle.std.proofs.Math.Path.{ap}
use Rattle.std.proofs.Common.{◌∙◌, arith, leb→le}
use Rattle.std.proofs.Math.Bool.{true}
use Rattle.std.proofs.Math.Option.{Option, none, some}
use Rattle.lists.specs.Lists.{count, same}
use Rattle.lists.specs.Tests.{conj, and_both, by_contra}
use Rattle.lists.specs.Entries.{same_eq, same_refl}
use Rattle.lists.specs.Count.{mono}
use Rattle.protocols.specs.declared.Protocol.{Protocol}
use Rattle.sizes.specs.Sizes.{faults, blocks}
use Rattle.messages.specs.Messages.{to_all}
use Rattle.messages.specs.Wall.{Sound, holds, Delivered}
use Rattle.codeword.specs.Codeword.{Held}
use Rattle.dispersal.specs.Run.{Graded, keeps}
use Rattle.dissemination.specs.Dissemination.{spoken, points, points_to_all}
use Rattle.dissemination.specs.Run.{inputs}
use Rattle.dissemination.proofs.Calls.{kept_of, calls_consistent}
use Rattle.agreement.specs.declared.Column.{Column}
use Rattle.protocols.specs.declared.Kind.TheVariants.{Points, KeptPoints}
use Rattle.protocols.specs.Protocols.{width, rounds_in, kind_in}
use Rattle.agreement.specs.Rounds.{votes_one, spreads, message, outcome_of, ends_on, hears}
use Rattle.agreement.proofs.Course.{listening}
use Rattle.agreement.proofs.Courses.{Courses, state, is, next, sent, of}

-- q rounds are over, and the two of dissemination end the run
pub record Disseminates (p : Protocol) (n q : ℕ) : Type 0 where
  pub last : rounds_in p n ≡ suc (suc q)
  pub kind₁ : kind_in p n (suc q) ≡ Points
  pub kind₂ : kind_in p n (suc (suc q)) ≡ KeptPoints

module _ {p : Protocol} {n m : ℕ} {H : ℕ → Bool} {held : ℕ → List ℕ} {inbox : ℕ → ℕ → List ℕ} (C : Courses p n m H held inbox)
    (q : ℕ) (D : Disseminates p n q) (places : ℕ → List ℕ) (holding : (i : ℕ) → (state C i q).bytes ≡ places i) where
  -- column i has its record for an input
  abbrev pub has : ℕ → Bool
  has i = spreads (state C i q)

  abbrev kept_by : ℕ → List ℕ
  kept_by = kept_of n m has places (of C (suc q)) (of C (suc (suc q)))

  kept_is : (i : ℕ) → (state C i (suc q)).kept ≡ kept_by i
  unfolding hears spreads votes_one
  kept_is i =
      let a = is C i q in
      ap (λ (c : Column). c.kept) (next C i q Points D.kind₁) ∙ rw (a.n_is, a.m_is, a.own_is, holding i)

  -- the vote stays as it is
  vote_stays : (i : ℕ) → votes_one (state C i (suc q)) ≡ votes_one (state C i q)
  unfolding hears votes_one
  vote_stays i = ap votes_one (next C i q Points D.kind₁)

  points_sent : Delivered n H (blocks n m) (λ j. points_to_all n m (has j) (places j)) (of C (suc q))
  unfolding message width points_to_all
  points_sent =
      sent C q Points (λ j i. points n m (has j) (places j) i) (omega (arith, D.last)) D.kind₁
      (λ j i sj.
      let a = is C j q in rw (a.n_is, a.m_is, holding j))

  -- where all sound columns have the vote 1, the kept points are sent
  kept_sent : ((j : ℕ) → Sound n H j → votes_one (state C j q) ≡ true)
      → Delivered n H (blocks n m) (λ j. to_all n (blocks n m) (spoken true (kept_by j))) (of C (suc (suc q)))
  unfolding message width to_all
  kept_sent ones =
      sent C (suc q) KeptPoints (λ j i. spoken true (kept_by j)) (omega (arith, D.last)) D.kind₂
      (λ j i sj. rw (vote_stays j, ones j sj, kept_is j))

  -- column i, to listen in the last round
  abbrev pub lastly : ℕ → Column
  lastly i = listening p n m i (held i) (inbox i) (suc q)

  -- what it ends on
  unfoldable pub decides : ℕ → Option (List ℕ)
  decides i = outcome_of (lastly i) (inbox i (suc (suc q)))

  pub last_state : (i : ℕ) → state C i (rounds_in p n) ≡ ends_on (decides i) (lastly i)
  unfolding hears decides
  last_state i = ap (state C i) D.last ∙ next C i (suc q) KeptPoints D.kind₂

  -- with vote 0 on none
  pub decides_none : (i : ℕ) → votes_one (state C i q) ≡ false → decides i ≡ none
  unfolding decides outcome_of votes_one
  decides_none i e = rw (vote_stays i, e)

  module _ (ones : (i : ℕ) → Sound n H i → votes_one (state C i q) ≡ true) where
    -- THEOREM 3.9, of the columns' states: with vote 1 at all sound columns, on the record that t + 1 of them have for an input, if no sound
    -- column has another one
    decides_record : (r : List ℕ) → Held m r → suc (faults n) ≤ count (inputs H has places r) n
        → ((j : ℕ) → Sound n H j → T (has j) → places j ≡ r) → (i : ℕ) → Sound n H i → decides i ≡ some r
    unfolding decides outcome_of votes_one message
    decides_record r whole many only i si =
        let a = is C i (suc q) in
        rw (vote_stays i, ones i si, a.n_is, a.m_is, a.own_is, kept_is i)
        (calls_consistent n m has places (of C (suc q)) (of C (suc (suc q))) H C.wall C.bytes_low C.bytes_high points_sent (kept_sent ones) r whole many only i si)

    -- what a sound grade 2 means for the end, where the columns left dispersal with these grades: t + 1 sound columns have its record for an
    -- input and no sound column has another, so all end on it
    module _ (g : ℕ → ℕ) (lasts : (i : ℕ) → (state C i q).grade ≡ g i) (G : Graded n H places g) (c : ℕ) (sc : Sound n H c) (two : g c ≡ 2) where
      -- who has an input left with grade 1 or 2, and the other way round
      has_is : (i : ℕ) → Sound n H i → has i ≡ leb 1 (g i)
      unfolding spreads votes_one
      has_is i si = rw (ones i si, lasts i)

      one_record : (j : ℕ) → Sound n H j → T (has j) → places j ≡ places c
      one_record j sj h =
          same_eq (places j) (places c) (by_contra (same (places j) (places c)) (λ no.
          omega (
            arith,
            leb→le 1 (g j) (rw (has_is j sj) at h),
            G.others c j sc sj two (λ e. no (rw e (same_refl (places c)))),
          )))

      many_inputs : suc (faults n) ≤ count (inputs H has places (places c)) n
      many_inputs =
          omega (
            arith,
            G.enough c sc two,
            mono (keeps H places g (places c)) (inputs H has places (places c)) n (λ i l u h.
                let si : Sound n H i = (l, u, search conj) in
                let one : T (leb 1 (g i)) = search conj in
                let held_it : T (same (places i) (places c)) = search conj in
                and_both (holds H places (places c) i) (has i) (and_both (H i) (same (places i) (places c)) si.2 held_it) (rw (has_is i si) one)),
          )

      pub grade_two_decides : Held m (places c) → (i : ℕ) → Sound n H i → decides i ≡ some (places c)
      grade_two_decides whole = decides_record (places c) whole many_inputs one_record
