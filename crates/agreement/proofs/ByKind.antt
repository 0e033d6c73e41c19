-- Which round is of which kind, and that the last is the only one of its kind.
use Rattle.std.specs.Prelude.{◌≡◌, ◌⊎◌, true, false, get_or}
use Rattle.std.proofs.Math.Path.{refl, ap}
use Rattle.std.proofs.Common.{sym, ◌∙◌, inl, inr, true≢false, eq-or-lt_of_le}
use Prim.Native.Nat.{ℕ, zero, suc, ◌+◌, ◌-◌, ◌*◌, ◌/◌, ◌%◌, ◌≤◌, ◌<◌}
use Rattle.std.proofs.Math.Decide.{dec_lt}
use native.Mathlib.Omega.{arith}
use Rattle.sizes.specs.Sizes.{faults}
use Rattle.protocols.specs.declared.Protocol.{Protocol}
use Rattle.protocols.specs.declared.Protocol.TheVariants.{Agreement, Posting}
use Rattle.protocols.specs.declared.Kind.{Kind}
use Rattle.protocols.specs.declared.Kind.TheVariants.{Votes, Proposals, King, Points, KeptPoints}
use Rattle.protocols.specs.Protocols.{phase, kinds, rounds_in, kind_in}
use Rattle.protocols.proofs.Laws.{rounds_agreement, rounds_posting, kind_phase}
use Rattle.protocols.proofs.Laws as P
use Rattle.king.specs.King.{phases}
use Rattle.agreement.proofs.Heard.{touches, ends, rewrites}

-- "A run has 3t + 8 rounds": three of dispersal, three of each phase, two of dissemination
pub rounds_of_lem : (n : ℕ) → rounds_in Agreement n ≡ 3 * phases n + 5
unfolding phases
rounds_of_lem n = omega (arith, rounds_agreement n)

module _ (n round : ℕ) where
  -- the 3(t + 1) rounds from the fourth on are the king's
  in_phase : (q : ℕ) → q < 3 * phases n → round ≡ q + 4 → kind_in Agreement n round ≡ get_or (phase (q / 3 + 1)) (q % 3) KeptPoints
  unfolding phases
  in_phase q h e = ap (kind_in Agreement n) e ∙ kind_phase n q h

  -- phase p + 1, of king p + 1
  module _ (p : ℕ) (h : p < phases n) where
    pub kind_votes : round ≡ 3 * p + 4 → kind_in Agreement n round ≡ Votes
    unfolding phase
    kind_votes e =
        let a : 3 * p % 3 ≡ 0 = omega arith in
        in_phase (3 * p) (omega arith) e ∙ rw a refl

    pub kind_proposals : round ≡ 3 * p + 5 → kind_in Agreement n round ≡ Proposals
    unfolding phase
    kind_proposals e =
        let a : (3 * p + 1) % 3 ≡ 1 = omega arith in
        in_phase (3 * p + 1) (omega arith) (omega arith) ∙ rw a refl

    pub kind_king : round ≡ 3 * p + 6 → kind_in Agreement n round ≡ King (suc p)
    unfolding phase
    kind_king e =
        let a : (3 * p + 2) % 3 ≡ 2 = omega arith in
        let b : (3 * p + 2) / 3 + 1 ≡ suc p = omega arith in
        in_phase (3 * p + 2) (omega arith) (omega arith) ∙ rw (a, b) refl

  pub kind_points : round ≡ 3 * phases n + 4 → kind_in Agreement n round ≡ Points
  unfolding phases
  kind_points e = ap (kind_in Agreement n) e ∙ P.kind_points n (3 * (faults n + 1)) refl

  pub kind_kept : 3 * phases n + 4 < round → kind_in Agreement n round ≡ KeptPoints
  unfolding phases
  kind_kept h =
      let e : round ≡ round - 4 + 4 = omega arith in
      ap (kind_in Agreement n) e ∙ P.kind_kept n (round - 4) (omega arith)

-- what holds of these kinds holds of every round past the third, the last of them only where the run ends
module _ (P : Kind → Type 0) (votes : P Votes) (proposals : P Proposals) (king : (k : ℕ) → P (King k)) (points : P Points) where
  calls_in_turn : (k j : ℕ) → j < 3 → P (get_or (phase k) j KeptPoints)
  unfolding phase
  calls_in_turn k zero h = votes
  calls_in_turn k (suc zero) h = proposals
  calls_in_turn k (suc (suc zero)) h = king k
  calls_in_turn k (suc (suc (suc j))) h = absurd (omega arith)

  pub past_three : (n round : ℕ) → 4 ≤ round → (3 * phases n + 4 < round → P KeptPoints) → P (kind_in Agreement n round)
  past_three n round l kept = go (dec_lt (round - 4) (3 * phases n)) (dec_lt (3 * phases n + 4) round)
    where
      go : Dec (round - 4 < 3 * phases n) → Dec (3 * phases n + 4 < round) → P (kind_in Agreement n round)
      go (yes h) d = rw (in_phase n round (round - 4) h (omega arith)) (calls_in_turn ((round - 4) / 3 + 1) ((round - 4) % 3) (omega arith))
      go (no h) (yes g) = rw (kind_kept n round g) (kept g)
      go (no h) (no g) = rw (kind_points n round (omega arith)) points

abbrev Keeps : Kind → Type 0
Keeps kind = (ends kind ≡ false) × (rewrites kind ≡ false)

-- in an agreement only the last round does
pub keeps_on : (n round : ℕ) → round ≤ 3 * phases n + 4 → Keeps (kind_in Agreement n round)
unfolding kind_in kinds touches ends rewrites
keeps_on n zero h = (refl, refl)
keeps_on n (suc zero) h = (refl, refl)
keeps_on n (suc (suc zero)) h = (refl, refl)
keeps_on n (suc (suc (suc zero))) h = (refl, refl)
keeps_on n (suc (suc (suc (suc q)))) h =
    past_three Keeps (refl, refl) (refl, refl) (λ k. (refl, refl)) (refl, refl) n (suc (suc (suc (suc q)))) (omega arith) (λ g. absurd (omega arith))

-- every run goes on before its last round
pub goes_on : (p : Protocol) (n round : ℕ) → 1 ≤ round → round < rounds_in p n → ends (kind_in p n round) ≡ false
unfolding kind_in kinds touches ends
goes_on Agreement n round l h = (keeps_on n round (omega (arith, rounds_of_lem n))).0
goes_on (Posting s) n zero l h = refl
goes_on (Posting s) n (suc zero) l h = refl
goes_on (Posting s) n (suc (suc zero)) l h = refl
goes_on (Posting s) n (suc (suc (suc zero))) l h = refl
goes_on (Posting s) n (suc (suc (suc (suc zero)))) l h = refl
goes_on (Posting s) n (suc (suc (suc (suc (suc zero))))) l h = refl
goes_on (Posting s) n (suc (suc (suc (suc (suc (suc q)))))) l h = absurd (omega (arith, rounds_posting s n))

-- and ends with it
last_ends : (p : Protocol) (n round : ℕ) → round ≡ rounds_in p n → ends (kind_in p n round) ≡ true
unfolding kind_in kinds rounds_in touches ends
last_ends Agreement n round e = ap ends (kind_kept n round (omega (arith, rounds_of_lem n)))
last_ends (Posting s) n round e = ap (λ (r : ℕ). ends (kind_in (Posting s) n r)) e

pub before_last : (p : Protocol) (n round : ℕ) → round ≤ rounds_in p n → ends (kind_in p n round) ≡ false → round < rounds_in p n
before_last p n round h e = go (eq-or-lt_of_le h)
  where
    go : (round ≡ rounds_in p n) ⊎ (round < rounds_in p n) → round < rounds_in p n
    go (inl q) = absurd (true≢false (sym (last_ends p n round q) ∙ e))
    go (inr q) = q
