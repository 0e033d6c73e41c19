-- The laws of the protocols: how many rounds, which kind each is, how many values; a line has 4B + 3t + 5 values in an agreement and
-- m + 4B + 2 in a posting.
use Rattle.std.specs.Prelude.{◌≡◌, Bool, true, false, cond, T, ltb, length}
use Rattle.std.proofs.Math.Path.{refl, ap}
use Rattle.std.proofs.Common.{◌∙◌, mul-le-mul, ltb→lt, length-append}
use mathlib.Core.List.{List, [], ◌∷◌, ◌++◌}
use Prim.Native.Nat.{ℕ, zero, suc, ◌+◌, ◌-◌, ◌*◌, ◌/◌, ◌%◌, ◌≤◌, ◌<◌}
use native.Mathlib.Omega.{arith}
use Rattle.std.proofs.Math.ListN.{get_or}
use Rattle.lists.specs.Lists.{bit, sum}
use Rattle.lists.specs.Entries.{sum_front, sum_same}
use Rattle.sizes.specs.Sizes.{faults, degree, blocks, outside}
use Rattle.sizes.specs.Laws.{InRange}
use Rattle.sizes.proofs.Laws.{faults_le, blocks_le, not_outside, sized}
use Rattle.protocols.specs.declared.Protocol.{Protocol}
use Rattle.protocols.specs.declared.Protocol.TheVariants.{Agreement, Posting}
use Rattle.protocols.specs.declared.Kind.{Kind}
use Rattle.protocols.specs.declared.Kind.TheVariants.{Exchange, FirstReport, SecondReport, Votes, Proposals, King, Points, KeptPoints, Post}
use Rattle.protocols.specs.Protocols.{width, phase, phases_from, kinds, rounds_in, kind_in, values_in, line_in, beside, posts, protocol_count, number_of, protocol_of}

-- THE ROUNDS

length_phases : (k left : ℕ) → length (phases_from k left) ≡ 3 * left
unfolding phases_from phase
length_phases k zero = refl
length_phases k (suc left) = omega (arith, length_phases (suc k) left)

-- "A run has 3t + 8 rounds."
pub rounds_agreement : (n : ℕ) → rounds_in Agreement n ≡ 3 * faults n + 8
unfolding rounds_in kinds
rounds_agreement n = omega (arith, length-append (phases_from 1 (faults n + 1)) (Points ∷ KeptPoints ∷ []), length_phases 1 (faults n + 1))

-- of a posting: "its rounds are 1 to 6"
pub rounds_posting : (s n : ℕ) → rounds_in (Posting s) n ≡ 6
unfolding rounds_in kinds
rounds_posting s n = refl

pub rounds_in_le : (p : Protocol) (n : ℕ) → rounds_in p n ≤ 3 * n + 8
rounds_in_le Agreement n = omega (arith, rounds_agreement n, faults_le n)
rounds_in_le (Posting s) n = omega (arith, rounds_posting s n)

-- a run has rounds
pub rounds_in_some : (p : Protocol) (n : ℕ) → 6 ≤ rounds_in p n
rounds_in_some Agreement n = omega (arith, rounds_agreement n)
rounds_in_some (Posting s) n = omega (arith, rounds_posting s n)

-- there is no round 0: it reads as the first
pub kind_first : (p : Protocol) (n round : ℕ) → round ≤ 1 → kind_in p n round ≡ kind_in p n 1
unfolding kind_in
kind_first p n round h =
    let i : round - 1 ≡ 0 = omega arith in
    rw i refl

last : (j : ℕ) → get_or (KeptPoints ∷ []) j KeptPoints ≡ KeptPoints
last zero = refl
last (suc j) = refl

-- THE KINDS OF AN AGREEMENT'S ROUNDS

-- round j + 1 of the phase that follows p others; what stands behind all phases
phases_at : (k left p j : ℕ) (tail : List Kind) → p < left → j < 3 → get_or (phases_from k left ++ tail) (3 * p + j) KeptPoints ≡ get_or (phase (k + p)) j KeptPoints
unfolding phases_from phase
phases_at k zero p j tail h l = absurd (omega arith)
phases_at k (suc left) zero zero tail h l = refl
phases_at k (suc left) zero (suc zero) tail h l = refl
phases_at k (suc left) zero (suc (suc zero)) tail h l = ap King (omega arith)
phases_at k (suc left) zero (suc (suc (suc j))) tail h l = absurd (omega arith)
phases_at k (suc left) (suc p) j tail h l =
    let i : 3 * suc p + j ≡ suc (suc (suc (3 * p + j))) = omega arith in
    let q : suc k + p ≡ k + suc p = omega arith in
    rw i (phases_at (suc k) left p j tail (omega arith) l ∙ ap (λ (x : ℕ). get_or (phase x) j KeptPoints) q)

behind_phases : (k left j : ℕ) (tail : List Kind) → get_or (phases_from k left ++ tail) (3 * left + j) KeptPoints ≡ get_or tail j KeptPoints
unfolding phases_from phase
behind_phases k zero j tail = ap (λ (i : ℕ). get_or tail i KeptPoints) (omega arith)
behind_phases k (suc left) j tail =
    let i : 3 * suc left + j ≡ suc (suc (suc (3 * left + j))) = omega arith in
    rw i (behind_phases (suc k) left j tail)

module _ (n q : ℕ) where
  -- the round that follows the first three and q others
  later : ℕ → Kind
  later i = get_or (phases_from 1 (faults n + 1) ++ Points ∷ KeptPoints ∷ []) i KeptPoints

  past_three : kind_in Agreement n (q + 4) ≡ later q
  unfolding kind_in kinds later
  past_three =
      let i : q + 4 - 1 ≡ suc (suc (suc q)) = omega arith in
      rw i refl

  -- "t + 1 phases of three rounds, king of phase k is column k"
  pub kind_phase : q < 3 * (faults n + 1) → kind_in Agreement n (q + 4) ≡ get_or (phase (q / 3 + 1)) (q % 3) KeptPoints
  unfolding later
  kind_phase h =
      let i : q ≡ 3 * (q / 3) + q % 3 = omega arith in
      let k : 1 + q / 3 ≡ q / 3 + 1 = omega arith in
      past_three ∙ ap later i ∙ phases_at 1 (faults n + 1) (q / 3) (q % 3) (Points ∷ KeptPoints ∷ []) (omega arith) (omega arith)
      ∙ ap (λ (x : ℕ). get_or (phase x) (q % 3) KeptPoints) k

  pub kind_points : q ≡ 3 * (faults n + 1) → kind_in Agreement n (q + 4) ≡ Points
  unfolding later
  kind_points h =
      let i : q ≡ 3 * (faults n + 1) + 0 = omega arith in
      past_three ∙ ap later i ∙ behind_phases 1 (faults n + 1) 0 (Points ∷ KeptPoints ∷ [])

  pub kind_kept : 3 * (faults n + 1) < q → kind_in Agreement n (q + 4) ≡ KeptPoints
  unfolding later
  kind_kept h =
      let i : q ≡ 3 * (faults n + 1) + suc (q - 3 * (faults n + 1) - 1) = omega arith in
      past_three ∙ ap later i ∙ behind_phases 1 (faults n + 1) (suc (q - 3 * (faults n + 1) - 1)) (Points ∷ KeptPoints ∷ []) ∙ last (q - 3 * (faults n + 1) - 1)

-- the same by the round's number: behind the first three, and from the last one on
module _ (n round : ℕ) where
  behind_three : 4 ≤ round → kind_in Agreement n round ≡ kind_in Agreement n (round - 4 + 4)
  behind_three h = ap (kind_in Agreement n) (omega arith)

  pub round_phase : 4 ≤ round → round + 1 < rounds_in Agreement n → kind_in Agreement n round ≡ get_or (phase ((round - 4) / 3 + 1)) ((round - 4) % 3) KeptPoints
  round_phase h l = behind_three h ∙ kind_phase n (round - 4) (omega (arith, rounds_agreement n))

  pub round_points : round + 1 ≡ rounds_in Agreement n → kind_in Agreement n round ≡ Points
  round_points e = behind_three (omega (arith, rounds_agreement n)) ∙ kind_points n (round - 4) (omega (arith, rounds_agreement n))

  pub round_kept : rounds_in Agreement n ≤ round → kind_in Agreement n round ≡ KeptPoints
  round_kept l = behind_three (omega (arith, rounds_agreement n)) ∙ kind_kept n (round - 4) (omega (arith, rounds_agreement n))

-- THE KINDS OF A POSTING'S ROUNDS

pub posting_last : (s n round : ℕ) → 6 ≤ round → kind_in (Posting s) n round ≡ KeptPoints
unfolding kind_in kinds
posting_last s n round h =
    let i : round - 1 ≡ suc (suc (suc (suc (suc (round - 6))))) = omega arith in
    rw i (last (round - 6))

-- THE VALUES OF A MESSAGE

-- of any kind
pub width_le : (n m : ℕ) (kind : Kind) → width n m kind ≤ 2 * m + 1
unfolding width
width_le n m Exchange = omega (arith, blocks_le n m)
width_le n m FirstReport = omega arith
width_le n m SecondReport = omega arith
width_le n m Votes = omega arith
width_le n m Proposals = omega arith
width_le n m (King king) = omega arith
width_le n m Points = omega (arith, blocks_le n m)
width_le n m KeptPoints = omega (arith, blocks_le n m)
width_le n m (Post s) = omega arith

-- n is at most 9 (d + 1), and B blocks of d + 1 bytes are at most m + d
exchange_le : (n m : ℕ) → InRange n m → n * (2 * blocks n m) ≤ 992
exchange_le n m r =
    let s = sized n m r in
    let some : blocks n m * (degree n + 1) ≤ 35 = omega (arith, s.blocks_least, s.degree_high, r.bytes_high) in
    let held : n * blocks n m ≤ 9 * (degree n + 1) * blocks n m = mul-le-mul {n₁ = n} {m₁ = blocks n m} {n₂ = 9 * (degree n + 1)} {m₂ = blocks n m} (omega (arith, s.faults_most, s.degree_most)) (omega arith) in
    omega (arith, held, some)

record_le : (n m : ℕ) → InRange n m → n * m ≤ 992
record_le n m r = mul-le-mul {n₁ = n} {m₁ = m} {n₂ = 31} {m₂ = 32} r.columns_high r.bytes_high

-- so what a column says to all in a round of any kind has room
pub width_all_le : (n m : ℕ) (kind : Kind) → InRange n m → n * width n m kind ≤ 992
unfolding width
width_all_le n m Exchange r = exchange_le n m r
width_all_le n m FirstReport r = omega (arith, r.columns_high)
width_all_le n m SecondReport r = omega (arith, r.columns_high)
width_all_le n m Votes r = omega (arith, r.columns_high)
width_all_le n m Proposals r = omega (arith, r.columns_high)
width_all_le n m (King king) r = omega (arith, r.columns_high)
width_all_le n m Points r = omega (arith, exchange_le n m r)
width_all_le n m KeptPoints r = omega (arith, exchange_le n m r)
width_all_le n m (Post s) r = record_le n m r

-- in a round of the run they are those of its kind
pub values_are : (p : Protocol) (n m round : ℕ) → 1 ≤ round → round ≤ rounds_in p n → values_in p n m round ≡ width n m (kind_in p n round)
unfolding values_in
values_are p n m round l h = rw (not_outside 1 (rounds_in p n) round l h) refl

-- what holds of no values and of those of every kind holds in every round
pub values_by_kind : (P : ℕ → Type 0) (p : Protocol) (n m round : ℕ) → P 0 → ((kind : Kind) → P (width n m kind)) → P (values_in p n m round)
unfolding values_in
values_by_kind P p n m round none each = go (outside 1 (rounds_in p n) round)
  where
    go : (b : Bool) → P (cond b 0 (width n m (kind_in p n round)))
    go true = none
    go false = each (kind_in p n round)

pub values_in_le : (p : Protocol) (n m round : ℕ) → values_in p n m round ≤ 2 * m + 1
values_in_le p n m round = values_by_kind (λ w. w ≤ 2 * m + 1) p n m round (omega arith) (width_le n m)

-- THE VALUES OF ALL ROUNDS

module _ (n m : ℕ) where
  total : List Kind → ℕ
  total [] = 0
  total (kind ∷ rest) = width n m kind + total rest

  total_append : (before behind : List Kind) → total (before ++ behind) ≡ total before + total behind
  unfolding total
  total_append [] behind = omega arith
  total_append (kind ∷ before) behind = omega (arith, total_append before behind)

  total_phases : (k left : ℕ) → total (phases_from k left) ≡ 3 * left
  unfolding total phases_from phase width
  total_phases k zero = refl
  total_phases k (suc left) = omega (arith, total_phases (suc k) left)

  by_rounds : (l : List Kind) → sum (λ r. width n m (get_or l (r - 1) KeptPoints)) (length l) ≡ total l
  unfolding sum total
  by_rounds [] = refl
  by_rounds (kind ∷ rest) =
      sum_front (λ r. width n m (get_or (kind ∷ rest) (r - 1) KeptPoints)) (length rest)
      ∙ ap (λ (x : ℕ). width n m kind + x) (sum_same (λ r. width n m (get_or (kind ∷ rest) (suc r - 1) KeptPoints)) (λ r. width n m (get_or rest (r - 1) KeptPoints)) (length rest) (λ r l h.
      let i : suc r - 1 ≡ suc (r - 1) = omega arith in
      rw i refl) ∙ by_rounds rest)

  line_total : (p : Protocol) → line_in p n m ≡ total (kinds p n)
  unfolding line_in rounds_in kind_in
  line_total p = sum_same _ _ (length (kinds p n)) (λ r l h. values_are p n m r l h) ∙ by_rounds (kinds p n)

  -- "the values of all rounds in order, 4B + 3t + 5 of them"
  pub line_agreement : line_in Agreement n m ≡ 4 * blocks n m + 3 * faults n + 5
  unfolding kinds width total
  line_agreement =
      line_total Agreement
      ∙ omega (arith, total_append (phases_from 1 (faults n + 1)) (Points ∷ KeptPoints ∷ []), total_phases 1 (faults n + 1))

  -- of a posting: "its lines have m + 4B + 2 values per receiver"
  pub line_posting : (s : ℕ) → line_in (Posting s) n m ≡ m + 4 * blocks n m + 2
  unfolding kinds width total
  line_posting s = line_total (Posting s) ∙ omega arith

-- no line is longer than the longer of these two
pub line_le : (p : Protocol) (n m rest : ℕ) → 3 * faults n + 5 ≤ rest → m + 2 ≤ rest → line_in p n m ≤ 4 * blocks n m + rest
line_le Agreement n m rest a b = omega (arith, line_agreement n m)
line_le (Posting s) n m rest a b = omega (arith, line_posting n m s)

pub line_in_le : (p : Protocol) (n m : ℕ) → line_in p n m ≤ 5 * m + 3 * n + 5
line_in_le p n m = omega (arith, line_le p n m (m + 3 * n + 5) (omega (arith, faults_le n)) (omega arith), blocks_le n m)

-- A PROTOCOL BY ITS NUMBER: what is told is read back, and what is read was told
pub number_few : (p : Protocol) → ltb (number_of p) protocol_count ≡ true
unfolding number_of
number_few Agreement = refl
number_few (Posting s) = refl

pub number_read : (p : Protocol) (poster : ℕ) → (posts p ≡ true → poster ≡ beside p) → protocol_of (number_of p) poster ≡ p
unfolding number_of protocol_of posts beside
number_read Agreement poster h = refl
number_read (Posting s) poster h = ap {B = Protocol} Posting (h refl)

pub number_written : (runs poster : ℕ) → T (ltb runs protocol_count) → (number_of (protocol_of runs poster) ≡ runs) × (posts (protocol_of runs poster) ≡ true → beside (protocol_of runs poster) ≡ poster)
unfolding number_of protocol_of posts beside
number_written zero poster h = (refl, λ e. let z : ◌≡◌ {A = ℕ} 0 1 = ap bit e in absurd (omega arith))
number_written (suc zero) poster h = (refl, λ e. refl)
number_written (suc (suc runs)) poster h = absurd (omega (arith, ltb→lt (suc (suc runs)) 2 h))
