-- THE THEOREM of the king rule: t + 1 phases end in a common vote (`agreement`), which is the one that all sound columns began with, if
-- they began with one (`validity`). Of t + 1 kings one is sound, and after its phase the votes are one and stay so (`settled_by`).
use Rattle.std.specs.Prelude.{◌≡◌, Bool, not, ℕ, zero, suc, ◌+◌, ◌-◌, ◌≤◌, ◌<◌}
use Rattle.std.proofs.Common.{sub-add_cancel, zero-add, add-zero, suc-add, arith}
use Rattle.lists.specs.Lists.{count}
use Rattle.lists.specs.Count.{count_not, longer, first, First}
use Rattle.messages.specs.Wall.{Wall, Sound}
use Rattle.messages.proofs.Quorums.{faults_few}
use Rattle.king.specs.King.{phases}
use Rattle.king.specs.Phase.{EachPhase}
use Rattle.king.proofs.Phase.{persists, between_bits, common_after, bits_after}

-- the lowest-numbered sound column is one of the kings, columns 1 to t + 1
pub first_king : {n : ℕ} {H : ℕ → Bool} → Wall n H → (k : ℕ) × (k < phases n) × Sound n H (suc k) × ((i : ℕ) → Sound n H i → k < i)
unfolding phases
first_king {n} {H} W = go (first H (phases n) (omega (arith, W.few, count_not H (phases n), among)))
  where
    -- the unsound kings are no more than the unsound columns
    among : count (λ i. not (H i)) (phases n) ≤ count (λ i. not (H i)) n
    among = rw (sub-add_cancel {n = n} {m = phases n} (omega (arith, faults_few W))) at (longer (λ i. not (H i)) (phases n) (n - phases n))

    go : First H (phases n) → (k : ℕ) × (k < phases n) × Sound n H (suc k) × ((i : ℕ) → Sound n H i → k < i)
    go (zero, l, u, h, low) = absurd (omega arith)
    go (suc k, l, u, h, low) = (k, omega arith, (l, omega (arith, faults_few W), h), λ i si. low i si.0 si.2)

-- so one of the kings is sound
pub sound_king : {n : ℕ} {H : ℕ → Bool} → Wall n H → (k : ℕ) × (k < phases n) × Sound n H (suc k)
sound_king W = let r = first_king W in (r.0, r.1, r.2)

-- votes p i: the vote of column i after p phases
module _ {n : ℕ} {H : ℕ → Bool} (W : Wall n H) (votes : ℕ → ℕ → ℕ) (phase : EachPhase n H votes) where
  pub stays : (b p k : ℕ) → b ≤ 1 → k + p ≤ phases n → ((i : ℕ) → Sound n H i → votes p i ≡ b) → (i : ℕ) → Sound n H i → votes (k + p) i ≡ b
  stays b p zero hb l e = rw zero-add e
  stays b p (suc k) hb l e = rw suc-add (persists W (phase (k + p) (omega arith)) b hb (stays b p k hb (omega arith) e))

  module _ (are_bits : (i : ℕ) → Sound n H i → votes 0 i ≤ 1) where
    bits_at : (p : ℕ) → p ≤ phases n → (i : ℕ) → Sound n H i → votes p i ≤ 1
    bits_at zero l = are_bits
    bits_at (suc p) l = bits_after W (phase p (omega arith)) (bits_at p (omega arith))

    -- after the phase of a sound king all votes are equal, and stay
    pub settled_by : (k : ℕ) → k < phases n → Sound n H (suc k)
        → (b : ℕ) × (b ≤ 1) × ((j : ℕ) → j + suc k ≤ phases n → (i : ℕ) → Sound n H i → votes (j + suc k) i ≡ b)
    settled_by k l sk =
        let K = phase k l in
        let bits = bits_at k (omega arith) in
        let hb = between_bits W K bits (suc k) sk in
        (K.between (suc k), hb, λ j u. stays (K.between (suc k)) (suc k) j hb u (common_after W K bits sk))

    pub agreement : (b : ℕ) × (b ≤ 1) × ((i : ℕ) → Sound n H i → votes (phases n) i ≡ b)
    agreement =
        let (k, l, sk) = sound_king W in
        let (b, hb, all) = settled_by k l sk in
        let last = all (phases n - suc k) (omega arith) in
        (b, hb, rw (sub-add_cancel {n = phases n} {m = suc k} l) at last)

  pub validity : (b : ℕ) → b ≤ 1 → ((i : ℕ) → Sound n H i → votes 0 i ≡ b) → (i : ℕ) → Sound n H i → votes (phases n) i ≡ b
  validity b hb e = rw add-zero at (stays b 0 (phases n) hb (omega arith) e)
