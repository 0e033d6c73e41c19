-- Claims 3.4, 3.5 and 3.6 of document 002, from what sound columns do alone.
use Rattle.std.specs.Prelude.{◌≡◌, ◌⊎◌, Bool, true, ◌&&◌, List, [], ◌∷◌, ℕ, suc, ◌+◌, ◌-◌, ◌*◌, ◌≤◌}
use Rattle.std.proofs.Math.Path.{ap}
use Rattle.std.proofs.Common.{◌∙◌, inl, inr}
use Rattle.std.proofs.Math.Bool.{not}
use native.Mathlib.Omega.{arith}
use Rattle.std.proofs.Math.Dec.{T, eqb, leb→le, not_T}
use Rattle.lists.specs.Lists.{count, same}
use Rattle.lists.specs.Tests.{conj, and_both, not_not, by_contra}
use Rattle.lists.specs.Entries.{same_eq, same_refl}
use Rattle.lists.specs.Count.{count_all, count_not, cover, mono, law, law_if}
use Rattle.sizes.specs.Sizes.{faults, degree}
use Rattle.messages.specs.Messages.{read_report, times}
use Rattle.messages.specs.Wall.{Wall, Sound, holds}
use Rattle.messages.proofs.Quorums.{faults_few, degree_few}
use Rattle.codeword.specs.Codeword.{meets}
use Rattle.codeword.specs.Apart.{meets_refl, met, apart}
use Rattle.dispersal.specs.Dispersal.{agrees, first_quorum, first_report, reported, both, second_quorum, second_report, read_reports}
use Rattle.dispersal.specs.Laws.{agrees_meets, report_read}
use Rattle.dispersal.specs.Run.{Run}
use Rattle.dispersal.specs.Claims.{TwoCampsAtMost}

module _ {n m : ℕ} {H : ℕ → Bool} {held : ℕ → List ℕ} {A R : ℕ → List Bool} {S : ℕ → ℕ → ℕ} (D : Run n m H held A R S) where
  W : Wall n H
  W = D.wall

  -- column i sends a first report, a second report
  abbrev pub ok₁ : ℕ → Bool
  ok₁ i = first_quorum n (agrees (A i))

  abbrev pub ok₂ : ℕ → Bool
  ok₂ i = second_quorum n i (agrees (A i)) (reported (R i))

  -- the records r and s meet at the point x
  abbrev at : List ℕ → List ℕ → ℕ → Bool
  at r s x = meets n m r s x

  -- WHAT SOUND COLUMNS KNOW OF SOUND COLUMNS

  pub agreed : (i j : ℕ) → Sound n H i → Sound n H j → agrees (A i) j ≡ (at (held i) (held j) j && at (held i) (held j) i)
  agreed i j si sj = D.exchanged i j si sj ∙ agrees_meets n m i j (held i) (held j)

  meet_there : (i j : ℕ) → Sound n H i → Sound n H j → T (agrees (A i) j) → T (at (held i) (held j) j)
  meet_there i j si sj a = let b = rw (agreed i j si sj) at a in search conj

  meet_here : (i j : ℕ) → Sound n H i → Sound n H j → T (agrees (A i) j) → T (at (held i) (held j) i)
  meet_here i j si sj a = let b = rw (agreed i j si sj) at a in search conj

  pub first_heard : (i j : ℕ) → Sound n H i → Sound n H j → reported (R i) j ≡ ok₁ j
  unfolding first_report
  first_heard i j si sj = D.first i j si sj ∙ report_read (ok₁ j)

  pub second_heard : (i j : ℕ) → Sound n H i → Sound n H j → eqb (read_reports (S i) j) 1 ≡ ok₂ j
  unfolding second_report read_reports
  second_heard i j si sj = ap (λ (v : ℕ). eqb (read_report v) 1) (D.second i j si sj) ∙ report_read (ok₂ j)

  quorum₁ : (i : ℕ) → T (ok₁ i) → n - faults n ≤ count (agrees (A i)) n
  unfolding first_quorum
  quorum₁ i o = leb→le (n - faults n) (count (agrees (A i)) n) o

  quorum₂ : (i : ℕ) → T (ok₂ i) → n - faults n ≤ count (both (agrees (A i)) (reported (R i))) n
  unfolding second_quorum
  quorum₂ i o = leb→le (n - faults n) (count (both (agrees (A i)) (reported (R i))) n) (search conj)

  -- who sends a second report sent a first one
  pub first_sent : (i : ℕ) → Sound n H i → T (ok₂ i) → T (ok₁ i)
  unfolding second_quorum
  first_sent i si o = let r : T (reported (R i) i) = search conj in rw (first_heard i i si si) at r

  meet_sym : (r s : List ℕ) (x : ℕ) → T (at r s x) → T (at s r x)
  meet_sym r s x h = met n m s r s x (meets_refl n m s x) h

  -- two different records that sound columns held meet at no more than d points
  pub few_points : (i j : ℕ) → Sound n H i → Sound n H j → (held i ≡ held j → ⊥) → count (at (held i) (held j)) n ≤ degree n
  few_points i j si sj ne =
      apart n m (held i) (held j) (record { columns_low = W.low; columns_high = W.high; bytes_low = D.bytes_low; bytes_high = D.bytes_high })
      (D.records i si) (D.records j sj) ne

  -- "the count that lets at most two camps report needs 3d ≤ t"
  few_enough : TwoCampsAtMost n
  few_enough = omega (arith, degree_few W)

  -- CLAIM 3.4. Sound columns that send a first report held at most two records
  pub claim_3_4 : (a b c : ℕ) → Sound n H a → Sound n H b → Sound n H c → T (ok₁ a) → T (ok₁ b) → T (ok₁ c)
      → (held a ≡ held b → ⊥) → (held a ≡ held c → ⊥) → (held b ≡ held c → ⊥) → ⊥
  claim_3_4 a b c sa sb sc oa ob oc ab ac bc =
      omega (
        arith,
        faults_few W,
        few_enough,
        W.few,
        count_not H n,
        quorum₁ a oa,
        quorum₁ b ob,
        quorum₁ c oc,
        common a b sa sb ab,
        common a c sa sc ac,
        common b c sb sc bc,
        law (H ∷ agrees (A a) ∷ agrees (A b) ∷ agrees (A c) ∷ []) ((λ h p q r. p) ∷ (λ h p q r. q) ∷ (λ h p q r. r) ∷ [])
            ((λ h p q r. h) ∷ (λ h p q r. not h) ∷ (λ h p q r. not h) ∷ (λ h p q r. not h) ∷ (λ h p q r. h && p && q) ∷ (λ h p q r. h && p && r) ∷ (λ h p q r. h && q && r) ∷ []) n tt,
      )
    where
      common : (x y : ℕ) → Sound n H x → Sound n H y → (held x ≡ held y → ⊥) → count (λ i. H i && agrees (A x) i && agrees (A y) i) n ≤ degree n
      common x y sx sy ne =
          omega (
            arith,
            few_points x y sx sy ne,
            mono (λ i. H i && agrees (A x) i && agrees (A y) i) (at (held x) (held y)) n (λ i l u h.
                let si : Sound n H i = (l, u, search conj) in
                met n m (held x) (held y) (held i) i (meet_there x i sx si (search conj)) (meet_there y i sy si (search conj))),
          )

  -- so there are two camps: every sound column that sends a first report held r or s
  unfoldable pub Camps : List ℕ → List ℕ → Type 0
  Camps r s = (i : ℕ) → Sound n H i → T (ok₁ i) → (held i ≡ r) ⊎ (held i ≡ s)

  -- where many sound columns held r, a sound column that held s and sends a first report stands where r and s meet
  in_camp : (r s : List ℕ) → suc (faults n) ≤ count (holds H held r) n → (i : ℕ) → Sound n H i → held i ≡ s → T (ok₁ i) → T (at r s i)
  in_camp r s big i si e o = by_contra (at r s i) (λ unmet.
      omega (
        arith,
        quorum₁ i o,
        faults_few W,
        count_all n,
        law_if (agrees (A i) ∷ holds H held r ∷ []) (λ p q. not (p && q)) ((λ p q. p) ∷ (λ p q. q) ∷ []) ((λ p q. true) ∷ []) n tt
            (λ j l u. not_T (agrees (A i) j && holds H held r j) (λ h.
            let sj : Sound n H j = (l, u, search conj) in
            let ej : held j ≡ r = same_eq (held j) r (search conj) in
            unmet (meet_sym s r i (rw (e, ej) at (meet_here i j si sj (search conj)))))),
      ))

  -- CLAIM 3.5. Where t + 1 sound columns held r, no sound column that held s sends a second report
  pub claim_3_5 : (r s : List ℕ) → count (at r s) n ≤ degree n → Camps r s → suc (faults n) ≤ count (holds H held r) n
      → (j : ℕ) → Sound n H j → held j ≡ s → T (ok₂ j) → ⊥
  unfolding Camps both
  claim_3_5 r s few camps big j sj e o =
      omega (
        arith,
        faults_few W,
        few_enough,
        W.few,
        few,
        quorum₂ j o,
        cover (both (agrees (A j)) (reported (R j))) (λ i. not (H i)) (at r s) n (λ i l u a h.
            let si : Sound n H i = (l, u, not_not (H i) h) in
            let ai : T (agrees (A j) i) = search conj in
            let ri : T (reported (R j) i) = search conj in
            let oi : T (ok₁ i) = rw (first_heard j i sj si) at ri in
            go i si ai oi (camps i si oi)),
      )
    where
      go : (i : ℕ) → Sound n H i → T (agrees (A j) i) → T (ok₁ i) → (held i ≡ r) ⊎ (held i ≡ s) → T (at r s i)
      go i si ai oi (inl er) = meet_sym s r i (rw (e, er) at (meet_there j i sj si ai))
      go i si ai oi (inr es) = in_camp r s big i si es oi

  -- the step of Claim 3.6: where no more than t sound columns held r, one that held it and sends a second report stands where r and s meet
  small_camp : (r s : List ℕ) → Camps r s → count (holds H held r) n ≤ faults n → (j : ℕ) → Sound n H j → held j ≡ r → T (ok₂ j) → T (at r s j)
  unfolding Camps both
  small_camp r s camps small j sj e o = by_contra (at r s j) (λ unmet.
      omega (
        arith,
        faults_few W,
        W.few,
        quorum₂ j o,
        cover (both (agrees (A j)) (reported (R j))) (λ i. not (H i)) (holds H held r) n (λ i l u a h.
            let si : Sound n H i = (l, u, not_not (H i) h) in
            let ai : T (agrees (A j) i) = search conj in
            let ri : T (reported (R j) i) = search conj in
            let oi : T (ok₁ i) = rw (first_heard j i sj si) at ri in
            go unmet i si ai (camps i si oi)),
      ))
    where
      go : (T (at r s j) → ⊥) → (i : ℕ) → Sound n H i → T (agrees (A j) i) → (held i ≡ r) ⊎ (held i ≡ s) → T (holds H held r i)
      go unmet i si ai (inl er) = and_both (H i) (same (held i) r) si.2 (rw er (same_refl r))
      go unmet i si ai (inr es) = absurd (unmet (rw (e, es) at (meet_here j i sj si ai)))

  -- 2t + 1 second reports came to a sound column, so t + 1 sound columns sent one
  pub second_sent : (c : ℕ) → Sound n H c → 2 * faults n + 1 ≤ times (read_reports (S c)) 1 n → suc (faults n) ≤ count (λ i. H i && ok₂ i) n
  unfolding times
  second_sent c sc g =
      omega (
        arith,
        W.few,
        g,
        cover (λ i. eqb (read_reports (S c) i) 1) (λ i. not (H i)) (λ i. H i && ok₂ i) n (λ i l u r h.
            let si : Sound n H i = (l, u, not_not (H i) h) in
            and_both (H i) (ok₂ i) si.2 (rw (second_heard c i sc si) at r)),
      )

  -- CLAIM 3.6. Where no more than t sound columns held r, and no more than t held s, no sound column receives 2t + 1 second reports
  pub claim_3_6 : (r s : List ℕ) → count (at r s) n ≤ degree n → Camps r s → Camps s r → count (holds H held r) n ≤ faults n → count (holds H held s) n ≤ faults n
      → (c : ℕ) → Sound n H c → 2 * faults n + 1 ≤ times (read_reports (S c)) 1 n → ⊥
  unfolding Camps
  claim_3_6 r s few camps swapped small_r small_s c sc g =
      omega (
        arith,
        few_enough,
        few,
        second_sent c sc g,
        mono (λ i. H i && ok₂ i) (at r s) n (λ i a u h.
            let si : Sound n H i = (a, u, search conj) in
            let oi : T (ok₂ i) = search conj in
            meet i si oi (camps i si (first_sent i si oi))),
      )
    where
      meet : (i : ℕ) → Sound n H i → T (ok₂ i) → (held i ≡ r) ⊎ (held i ≡ s) → T (at r s i)
      meet i si oi (inl e) = small_camp r s camps small_r i si e oi
      meet i si oi (inr e) = meet_sym s r i (small_camp s r swapped small_s i si e oi)
