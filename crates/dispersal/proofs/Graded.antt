-- THEOREM 3.3: Protocol 3.2 is graded dispersal as Definition 3.1 has it.
use Rattle.std.proofs.Math.Path.{◌≡◌, refl}
use Rattle.std.proofs.Common.{sym, inl, inr}
use Rattle.std.specs.Prelude.{◌⊎◌, Bool, ◌&&◌, ℕ, suc, ◌+◌, ◌-◌, ◌*◌, ◌≤◌, ◌<◌}
use Rattle.std.proofs.Math.Bool.{true, false, cond}
use mathlib.Core.List.{List}
use native.Mathlib.Omega.{arith}
use Rattle.std.proofs.Math.Decide.{dec_le}
use borrow.Author.Tests.{le-leb}
use Rattle.std.proofs.Math.Dec.{T, leb, eqb, leb→le, le→leb}
use Rattle.lists.specs.Lists.{count, same}
use Rattle.lists.specs.Tests.{conj, and_both, by_contra, is_true, is_false}
use Rattle.lists.specs.Entries.{same_eq, same_refl}
use Rattle.lists.specs.Count.{mono}
use Rattle.sizes.specs.Sizes.{faults}
use Rattle.messages.specs.Messages.{times}
use Rattle.messages.specs.Wall.{Sound, holds}
use Rattle.messages.proofs.Quorums.{faults_few, enough}
use Rattle.codeword.specs.Codeword.{meets}
use Rattle.codeword.specs.Apart.{meets_refl}
use Rattle.dispersal.specs.Dispersal.{agrees, first_quorum, reported, both, second_quorum, read_reports, grade}
use Rattle.dispersal.specs.Run.{Run, grade_of, keeps, Graded}
use Rattle.dispersal.proofs.Claims.{ok₁, ok₂, Camps, agreed, first_heard, second_heard, first_sent, second_sent, few_points, claim_3_4, claim_3_5, claim_3_6}

-- GRADES

module _ (n own : ℕ) (A R : ℕ → Bool) (received : ℕ → ℕ) where
  -- who leaves with grade 2 sent a second report and received 2t + 1
  grade_two : grade n own A R received ≡ 2 → T (second_quorum n own A R) × (2 * faults n + 1 ≤ times (read_reports received) 1 n)
  unfolding grade
  grade_two = go (second_quorum n own A R) (leb (2 * faults n + 1) (times (read_reports received) 1 n)) refl
    where
      go : (p q : Bool) → leb (2 * faults n + 1) (times (read_reports received) 1 n) ≡ q → ◌≡◌ {A = ℕ} (cond p (cond q 2 1) 0) 2 → T p × (2 * faults n + 1 ≤ times (read_reports received) 1 n)
      go true true e h = (tt, leb→le (2 * faults n + 1) (times (read_reports received) 1 n) (rw e tt))
      go true false e h = absurd (omega arith)
      go false q e h = absurd (omega arith)

  is_two : T (second_quorum n own A R) → 2 * faults n + 1 ≤ times (read_reports received) 1 n → grade n own A R received ≡ 2
  unfolding grade
  is_two o l = rw (is_true (second_quorum n own A R) o, le-leb (2 * faults n + 1) (times (read_reports received) 1 n) l)

  -- who sent one leaves with grade 1 or 2, who did not with grade 0
  at_least_one : T (second_quorum n own A R) → T (leb 1 (grade n own A R received))
  unfolding grade
  at_least_one o = rw (is_true (second_quorum n own A R) o) (go (leb (2 * faults n + 1) (times (read_reports received) 1 n)))
    where
      go : (q : Bool) → T (leb 1 (cond q 2 1))
      go true = tt
      go false = tt

  -- there is no other
  pub grade_lt : grade n own A R received < 3
  unfolding grade
  grade_lt = go (second_quorum n own A R) (leb (2 * faults n + 1) (times (read_reports received) 1 n))
    where
      go : (p q : Bool) → cond p (cond q 2 1) 0 < 3
      go true true = omega arith
      go true false = omega arith
      go false q = omega arith

  is_zero : (T (second_quorum n own A R) → ⊥) → grade n own A R received ≡ 0
  unfolding grade
  is_zero h = rw (is_false (second_quorum n own A R) h)

module _ {n m : ℕ} {H : ℕ → Bool} {held : ℕ → List ℕ} {A R : ℕ → List Bool} {S : ℕ → ℕ → ℕ} (D : Run n m H held A R S) where
  abbrev g : ℕ → ℕ
  g = grade_of n A R S

  -- WEAK GRADED AGREEMENT

  -- the sound columns that send a first report held what c or b held
  two_camps : (c b : ℕ) → Sound n H c → Sound n H b → T (ok₁ D c) → T (ok₁ D b) → (held c ≡ held b → ⊥) → Camps D (held c) (held b)
  unfolding Camps
  two_camps c b sc sb oc ob ne i si oi = pick (same (held i) (held c)) refl (same (held i) (held b)) refl
    where
      differ : (r : List ℕ) → same (held i) r ≡ false → r ≡ held i → ⊥
      differ r q e = let s : T (same (held i) r) = rw e (same_refl (held i)) in rw q at s

      pick : (p : Bool) → same (held i) (held c) ≡ p → (q : Bool) → same (held i) (held b) ≡ q → (held i ≡ held c) ⊎ (held i ≡ held b)
      pick true ep q eq = inl (same_eq (held i) (held c) (rw ep tt))
      pick false ep true eq = inr (same_eq (held i) (held b) (rw eq tt))
      pick false ep false eq = absurd (claim_3_4 D c b i sc sb si oc ob oi ne (differ (held c) ep) (differ (held b) eq))

  -- a sound column that received 2t + 1 second reports and sent one, and a sound one that sent one: they held one record
  one_camp : (c b : ℕ) → Sound n H c → Sound n H b → T (ok₂ D c) → 2 * faults n + 1 ≤ times (read_reports (S c)) 1 n → T (ok₂ D b) → (held c ≡ held b → ⊥) → ⊥
  unfolding Camps
  one_camp c b sc sb oc l ob ne =
      go (dec_le (suc (faults n)) (count (holds H held (held c)) n)) (dec_le (suc (faults n)) (count (holds H held (held b)) n))
    where
      camps : Camps D (held c) (held b)
      camps = two_camps c b sc sb (first_sent D c sc oc) (first_sent D b sb ob) ne

      swapped : Camps D (held b) (held c)
      swapped = two_camps b c sb sc (first_sent D b sb ob) (first_sent D c sc oc) (λ e. ne (sym e))

      go : Dec (suc (faults n) ≤ count (holds H held (held c)) n) → Dec (suc (faults n) ≤ count (holds H held (held b)) n) → ⊥
      go (yes p) q = claim_3_5 D (held c) (held b) (few_points D c b sc sb ne) camps p b sb refl ob
      go (no p) (yes q) = claim_3_5 D (held b) (held c) (few_points D b c sb sc (λ e. ne (sym e))) swapped q c sc refl oc
      go (no p) (no q) = claim_3_6 D (held c) (held b) (few_points D c b sc sb ne) camps swapped (omega arith) (omega arith) c sc l

  pub one_record : (c b : ℕ) → Sound n H c → Sound n H b → T (ok₂ D c) → 2 * faults n + 1 ≤ times (read_reports (S c)) 1 n → T (ok₂ D b) → held b ≡ held c
  one_record c b sc sb oc l ob =
      same_eq (held b) (held c) (by_contra (same (held b) (held c)) (λ no. one_camp c b sc sb oc l ob (λ e. no (rw e (same_refl (held b))))))

  enough_keep : (c : ℕ) → Sound n H c → g c ≡ 2 → suc (faults n) ≤ count (keeps H held g (held c)) n
  enough_keep c sc e =
      let (oc, l) = grade_two n c (agrees (A c)) (reported (R c)) (S c) e in
      omega (
        arith,
        second_sent D c sc l,
        mono (λ i. H i && ok₂ D i) (keeps H held (grade_of n A R S) (held c)) n (λ i a u h.
            let si : Sound n H i = (a, u, search conj) in
            let oi : T (ok₂ D i) = search conj in
            let held_it : T (same (held i) (held c)) = rw (one_record c i sc si oc l oi) (same_refl (held c)) in
            let one : T (leb 1 (grade_of n A R S i)) = at_least_one n i (agrees (A i)) (reported (R i)) (S i) oi in
            and_both (holds H held (held c) i) (leb 1 (grade_of n A R S i)) (and_both (H i) (same (held i) (held c)) si.2 held_it) one),
      )

  others_zero : (c i : ℕ) → Sound n H c → Sound n H i → g c ≡ 2 → (held i ≡ held c → ⊥) → g i ≡ 0
  others_zero c i sc si e ne =
      let (oc, l) = grade_two n c (agrees (A c)) (reported (R c)) (S c) e in
      is_zero n i (agrees (A i)) (reported (R i)) (S i) (λ oi. ne (one_record c i sc si oc l oi))

  -- VALIDITY
  module _ (r : List ℕ) (all : (i : ℕ) → Sound n H i → held i ≡ r) where
    all_agree : (i j : ℕ) → Sound n H i → Sound n H j → T (agrees (A i) j)
    all_agree i j si sj = rw (agreed D i j si sj, all i si, all j sj) (and_both (meets n m r r j) (meets n m r r i) (meets_refl n m r j) (meets_refl n m r i))

    all_first : (i : ℕ) → Sound n H i → T (ok₁ D i)
    unfolding first_quorum
    all_first i si = le→leb (n - faults n) (count (agrees (A i)) n) (omega (arith, enough D.wall (agrees (A i)) (λ j sj. all_agree i j si sj)))

    all_second : (i : ℕ) → Sound n H i → T (ok₂ D i)
    unfolding second_quorum both
    all_second i si = and_both (leb (n - faults n) (count (both (agrees (A i)) (reported (R i))) n)) (reported (R i) i)
        (le→leb (n - faults n) (count (both (agrees (A i)) (reported (R i))) n) (omega (
          arith,
          enough D.wall (both (agrees (A i)) (reported (R i))) (λ j sj.
              and_both (agrees (A i) j) (reported (R i) j) (all_agree i j si sj) (rw (first_heard D i j si sj) (all_first j sj))),
        )))
        (rw (first_heard D i i si si) (all_first i si))

    all_two : (i : ℕ) → Sound n H i → g i ≡ 2
    unfolding times
    all_two i si =
        is_two n i (agrees (A i)) (reported (R i)) (S i) (all_second i si)
        (omega (arith, faults_few D.wall, enough D.wall (λ j. eqb (read_reports (S i) j) 1) (λ j sj. rw (second_heard D i j si sj) (all_second j sj))))

  pub theorem_3_3 : Graded n H held (grade_of n A R S)
  theorem_3_3 = record { validity = all_two; enough = enough_keep; others = others_zero }
