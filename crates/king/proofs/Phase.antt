-- One phase of the king rule, proved from what sound columns do alone: a common vote persists, and a phase with a sound king ends in a
-- common vote.
use Rattle.std.specs.Prelude.{◌≡◌, refl, Bool, not, ◌&&◌, [], ◌∷◌, T}
use Rattle.std.proofs.Common.{sym, ◌∙◌, leb→le, le→leb, eqb→eq}
use Prim.Native.Nat.{ℕ, suc, ◌+◌, ◌-◌, ◌≤◌}
use native.Mathlib.Omega.{arith}
use Rattle.std.proofs.Math.Dec.{eqb, not_T}
use Rattle.lists.specs.Lists.{count}
use Rattle.lists.specs.Tests.{conj}
use Rattle.lists.specs.Count.{count_not, law_if, find, Found}
use Rattle.field.specs.Field.{blank}
use Rattle.sizes.specs.Sizes.{faults}
use Rattle.messages.specs.Messages.{times}
use Rattle.messages.specs.Wall.{Wall, Sound}
use Rattle.messages.proofs.Quorums.{faults_few, heard_most, heard_least, unheard, same_heard}
use Rattle.king.specs.King.{bits, proposal, settled, firm}
use Rattle.king.proofs.Laws.{bits_same, bits_is, bits_only, chosen_is, chosen_only, settled_bit, word_king, crowned_is, crowned_firm, crowned_bit}
use Rattle.king.specs.Phase.{Phase}

module _ {n : ℕ} {H : ℕ → Bool} (W : Wall n H) {king : ℕ} {v v' : ℕ → ℕ} (K : Phase n H king v v') where
  -- what sound column j proposes
  abbrev sent : ℕ → ℕ
  sent j = proposal n (K.votes j)

  -- the votes and the proposals that i hears of sound columns
  heard_votes : (i j : ℕ) → Sound n H i → Sound n H j → bits (K.votes i) j ≡ bits v j
  heard_votes i j si sj = bits_same (K.votes i) v j (K.voted i j si sj)

  heard_proposals : (i j : ℕ) → Sound n H i → Sound n H j → bits (K.proposals i) j ≡ bits sent j
  heard_proposals i j si sj = bits_same (K.proposals i) sent j (K.proposed i j si sj)

  -- A COMMON VOTE PERSISTS
  module _ (b : ℕ) (hb : b ≤ 1) (common : (i : ℕ) → Sound n H i → v i ≡ b) where
    all_propose : (j : ℕ) → Sound n H j → sent j ≡ b
    unfolding proposal
    all_propose j sj =
        chosen_is n (n - faults n) (K.votes j) blank b hb (omega (arith, same_heard W (bits (K.votes j)) (bits v) (λ k. heard_votes j k sj) b (λ k sk. bits_is v k b hb (common k sk))))
        (omega (
          arith,
          faults_few W,
          unheard W (bits (K.votes j)) (bits v) (λ k. heard_votes j k sj) (1 - b) (λ k sk e.
              omega (arith, common k sk, bits_is v k b hb (common k sk))),
        ))

    all_heard : (i : ℕ) → Sound n H i → n ≤ faults n + times (bits (K.proposals i)) b n
    all_heard i si = same_heard W (bits (K.proposals i)) (bits sent) (λ j. heard_proposals i j si) b (λ j sj. bits_is sent j b hb (all_propose j sj))

    pub all_settle : (i : ℕ) → Sound n H i → K.between i ≡ b
    unfolding settled
    all_settle i si =
        K.settles i si ∙ chosen_is n (faults n + 1) (K.proposals i) (v i) b hb (omega (arith, faults_few W, all_heard i si))
        (omega (arith, unheard W (bits (K.proposals i)) (bits sent) (λ j. heard_proposals i j si) (1 - b) (λ j sj e. omega (arith, bits_is sent j b hb (all_propose j sj)))))

    pub persists : (i : ℕ) → Sound n H i → v' i ≡ b
    unfolding firm
    persists i si =
        K.crowns i si ∙ crowned_firm _ (K.between i) (K.said i) (le→leb (n - faults n) (times (bits (K.proposals i)) (K.between i) n) (rw (all_settle i si) (omega (arith, all_heard i si)))) ∙ all_settle i si

  -- whoever proposes a bit received it from n - t
  only : (i b : ℕ) → b ≤ 1 → sent i ≡ b → n - faults n ≤ times (bits (K.votes i)) b n
  unfolding proposal
  only i b hb e = chosen_only n (n - faults n) (K.votes i) blank b hb (omega arith) e

  -- TWO SOUND COLUMNS DO NOT PROPOSE DIFFERENT BITS: each would have heard it from n - t
  one_bit : (b : ℕ) → b ≤ 1 → (i j : ℕ) → Sound n H i → Sound n H j → sent i ≡ b → sent j ≡ 1 - b → ⊥
  one_bit b hb i j si sj ei ej =
      omega (
        arith,
        faults_few W,
        W.few,
        count_not H n,
        only i b hb ei,
        only j (1 - b) (omega arith) ej,
        heard_most W (bits (K.votes i)) (bits v) (λ k. heard_votes i k si) b,
        heard_most W (bits (K.votes j)) (bits v) (λ k. heard_votes j k sj) (1 - b),
        law_if (H ∷ (λ k. eqb (bits v k) b) ∷ (λ k. eqb (bits v k) (1 - b)) ∷ []) (λ h p q. not (p && q)) ((λ h p q. h && p) ∷ (λ h p q. h && q) ∷ []) ((λ h p q. h) ∷ []) n tt
            (λ k l u. not_T (eqb (bits v k) b && eqb (bits v k) (1 - b)) (λ f.
            let p : T (eqb (bits v k) b) = search conj in
            let q : T (eqb (bits v k) (1 - b)) = search conj in
            omega (arith, eqb→eq))),
      )

  module _ (are_bits : (i : ℕ) → Sound n H i → v i ≤ 1) where
    pub between_bits : (i : ℕ) → Sound n H i → K.between i ≤ 1
    between_bits i si = omega (arith, K.settles i si, settled_bit n (K.proposals i) (v i) (omega (arith, are_bits i si)))

    -- where one sound column is firm, all settle on its vote
    firm_spreads : (i j : ℕ) → Sound n H i → Sound n H j → T (firm n (K.proposals i) (K.between i)) → K.between j ≡ K.between i
    unfolding firm settled Found
    firm_spreads i j si sj f =
        K.settles j sj ∙ chosen_is n (faults n + 1) (K.proposals j) (v j) b hb
        (omega (arith, faults_few W, many, heard_least W (bits (K.proposals j)) (bits sent) (λ k. heard_proposals j k sj) b))
        (omega (
          arith,
          unheard W (bits (K.proposals j)) (bits sent) (λ k. heard_proposals j k sj) (1 - b) (λ k sk e.
              other k sk (bits_only sent k (1 - b) (omega arith) e) (find (λ k. H k && eqb (bits sent k) b) n (omega (arith, many)))),
        ))
      where
        b : ℕ
        b = K.between i

        hb : b ≤ 1
        hb = between_bits i si

        many : suc (faults n) ≤ count (λ k. H k && eqb (bits sent k) b) n
        many = omega (arith, faults_few W, W.few, leb→le (n - faults n) (times (bits (K.proposals i)) b n) f, heard_most W (bits (K.proposals i)) (bits sent) (λ k. heard_proposals i k si) b)

        other : (k : ℕ) → Sound n H k → sent k ≡ 1 - b → Found (λ k. H k && eqb (bits sent k) b) n → ⊥
        other k sk e (m, l, u, h) =
            let hm : T (H m) = search conj in
            let em : T (eqb (bits sent m) b) = search conj in
            one_bit b hb m k (l, u, hm) sk (bits_only sent m b hb (eqb→eq (bits sent m) b em)) e

    -- WITH A SOUND KING all votes are the king's
    pub common_after : Sound n H king → (i : ℕ) → Sound n H i → v' i ≡ K.between king
    common_after sk i si =
        K.crowns i si ∙ crowned_is (firm n (K.proposals i) (K.between i)) (K.between i) (K.said i) (K.between king) (between_bits king sk)
        (λ f. sym (firm_spreads i king si sk f)) (K.spoken i si sk ∙ word_king king king (K.between king) refl)

    pub bits_after : (i : ℕ) → Sound n H i → v' i ≤ 1
    bits_after i si = rw (K.crowns i si) (crowned_bit (firm n (K.proposals i) (K.between i)) (K.between i) (K.said i) (between_bits i si))
