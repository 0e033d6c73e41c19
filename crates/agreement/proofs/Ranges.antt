-- A column that fits, with one part changed; and a fresh one.
use Rattle.std.specs.Prelude.{◌≡◌, refl, Bool, true, false, not, ◌&&◌, ◌||◌, cond, List, [], ℕ, ◌≤◌, ◌<◌, zero, suc, T, eqb, ltb, get_or, replicate, length}
use Rattle.std.proofs.Common.{arith}
use Rattle.std.proofs.lemmas.List.{get_or-replicate}
use Rattle.lists.specs.Lists.{bit, all}
use Rattle.lists.specs.Tests.{and_left, and_right, and_both, or_past, eq→eqb}
use Rattle.lists.specs.Entries.{each_all}
use Rattle.field.specs.Field.{blank}
use Rattle.block.specs.Block.{part}
use Rattle.sizes.specs.Sizes.{blocks, outside, refusal}
use Rattle.sizes.proofs.Laws.{not_outside}
use Rattle.protocols.specs.declared.Protocol.{Protocol}
use Rattle.protocols.specs.Protocols.{rounds_in, beside, posts}
use Rattle.protocols.proofs.Laws.{rounds_in_some}
use Rattle.messages.specs.Messages.{read_point, read_bit}
use Rattle.codeword.specs.Places.{zeros_past}
use Rattle.agreement.specs.declared.Stage.{Stage}
use Rattle.agreement.specs.declared.Column.{Column}
use Rattle.agreement.specs.Column.{fresh_vote, brought, fresh_column, names_fit, stage_fits, byte_fits, flag_fits, point_fits, numbers_fit, arrays_fit, fits}
use Rattle.agreement.specs.Parts.{with_stage, with_bytes, with_proposal, with_agreements, with_reports, with_grade, with_vote, with_kept}
use Rattle.agreement.specs.Rounds.{first_vote}

ruleset conjunction = (and_left, and_right, and_both)

-- A COLUMN THAT FITS, WITH ONE PART CHANGED

module _ (c : Column) (h : T (fits c)) where
  pub with_stage_lem : (stage : Stage) → T (stage_fits (rounds_in c.protocol c.n) stage) → T (fits (with_stage stage c))
  unfolding fits numbers_fit names_fit arrays_fit
  with_stage_lem stage g = search conjunction depth 12

  pub with_bytes_lem : (bytes : List ℕ) → T (all (byte_fits c.m bytes) 32) → T (fits (with_bytes bytes c))
  unfolding fits numbers_fit names_fit arrays_fit
  with_bytes_lem bytes g = search conjunction depth 12

  pub with_proposal_lem : (v : ℕ) → T (eqb (read_bit v) v) → T (fits (with_proposal v c))
  unfolding fits numbers_fit names_fit arrays_fit
  with_proposal_lem v g = search conjunction depth 12

  pub with_agreements_lem : (flags : List Bool) → T (all (flag_fits c.n flags) 31) → T (fits (with_agreements flags c))
  unfolding fits numbers_fit names_fit arrays_fit
  with_agreements_lem flags g = search conjunction depth 12

  pub with_reports_lem : (flags : List Bool) → T (all (flag_fits c.n flags) 31) → T (fits (with_reports flags c))
  unfolding fits numbers_fit names_fit arrays_fit
  with_reports_lem flags g = search conjunction depth 12

  pub with_grade_lem : (v : ℕ) → T (ltb v 3) → T (fits (with_grade v c))
  unfolding fits numbers_fit names_fit arrays_fit
  with_grade_lem v g = search conjunction depth 12

  pub with_vote_lem : (v : ℕ) (sure : Bool) → T (ltb v 2) → T (fits (with_vote v sure c))
  unfolding fits numbers_fit names_fit arrays_fit
  with_vote_lem v sure g = search conjunction depth 12

  pub with_kept_lem : (points : List ℕ) → T (all (point_fits (blocks c.n c.m) points) 32) → T (fits (with_kept points c))
  unfolding fits numbers_fit names_fit arrays_fit
  with_kept_lem points g = search conjunction depth 12

  pub vote_fits : T (ltb c.vote 2)
  unfolding fits numbers_fit
  vote_fits = search conjunction depth 12

  pub bytes_were : T (all (byte_fits c.m c.bytes) 32)
  unfolding fits arrays_fit
  bytes_were = search conjunction depth 12

-- WHAT THE ROUNDS WRITE FITS

-- flags that are not set past n
pub flags_fit : (n : ℕ) (flags : List Bool) → ((i : ℕ) → n ≤ i → i < 31 → get_or flags i false ≡ false) → T (all (flag_fits n flags) 31)
unfolding flag_fits
flags_fit n flags h = each_all (flag_fits n flags) 31 (λ i l. or_past i n (not (get_or flags i false)) (λ u. rw (h i u l) tt))

-- bytes that are 0 past m
pub bytes_fit : (m : ℕ) (bytes : List ℕ) → ((p : ℕ) → m ≤ p → p < 32 → get_or bytes p 0 ≡ 0) → T (all (byte_fits m bytes) 32)
unfolding byte_fits
bytes_fit m bytes h = each_all (byte_fits m bytes) 32 (λ p l. or_past p m (eqb (get_or bytes p 0) 0) (λ u. eq→eqb (get_or bytes p 0) 0 (h p u l)))

-- points that read as themselves and are blank past the blocks
pub points_fit : (b : ℕ) (kept : List ℕ) → ((k : ℕ) → k < 32 → read_point (get_or kept k blank) ≡ get_or kept k blank)
    → ((k : ℕ) → k < 32 → b ≤ k → get_or kept k blank ≡ blank) → T (all (point_fits b kept) 32)
unfolding point_fits
points_fit b kept f h =
    each_all (point_fits b kept) 32 (λ k l.
    and_both (eqb (read_point (get_or kept k blank)) (get_or kept k blank)) (ltb k b || eqb (get_or kept k blank) blank)
    (eq→eqb (read_point (get_or kept k blank)) (get_or kept k blank) (f k l))
    (or_past k b (eqb (get_or kept k blank) blank) (λ u. eq→eqb (get_or kept k blank) blank (h k l u))))

-- one of two records
pub either : (P : List ℕ → Type 0) (b : Bool) (r t : List ℕ) → P r → P t → P (cond b r t)
either P true r t h g = h
either P false r t h g = g

-- the vote that a grade gives
pub first_fits : (g : ℕ) → g < 3 → T (ltb (first_vote g) 2)
unfolding first_vote
first_fits zero l = tt
first_fits (suc zero) l = tt
first_fits (suc (suc zero)) l = tt
first_fits (suc (suc (suc g))) l = absurd (omega arith)

-- a round of the run
pub round_fits : (last round : ℕ) → 1 ≤ round → round ≤ last → T (not (outside 1 last round))
round_fits last round l h = rw (not_outside 1 last round l h) tt

-- A FRESH COLUMN

-- its vote, and the bytes past m of the record that it brings
fresh_vote_fits : (p : Protocol) → T (ltb (fresh_vote p) 2)
unfolding fresh_vote
fresh_vote_fits p = go (posts p)
  where
    go : (b : Bool) → T (ltb (bit b) 2)
    go true = tt
    go false = tt

brought_past : (p : Protocol) (m own : ℕ) (bytes : List ℕ) → length bytes ≡ m → (q : ℕ) → m ≤ q → get_or (part (brought p own bytes) 0 32) q 0 ≡ 0
unfolding brought
brought_past p m own bytes h = go (posts p) (eqb own (beside p))
  where
    go : (post mine : Bool) (q : ℕ) → m ≤ q → get_or (part (cond post (cond mine bytes []) bytes) 0 32) q 0 ≡ 0
    go true true q l = zeros_past m bytes h q l
    go true false q l = zeros_past 0 [] refl q (omega arith)
    go false mine q l = zeros_past m bytes h q l

pub fresh_fits : (p : Protocol) (n m own : ℕ) (bytes : List ℕ) → refusal n m own ≡ 0 → refusal n m (beside p) ≡ 0 → length bytes ≡ m → T (fits (fresh_column p n m own bytes))
unfolding fits numbers_fit names_fit arrays_fit fresh_column stage_fits read_bit read_point
fresh_fits p n m own bytes e b h =
    let sizes : T (eqb (refusal n m own) 0) = eq→eqb (refusal n m own) 0 e in
    let poster : T (eqb (refusal n m (beside p)) 0) = eq→eqb (refusal n m (beside p)) 0 b in
    let names : T (eqb (refusal n m own) 0 && eqb (refusal n m (beside p)) 0) = and_both (eqb (refusal n m own) 0) (eqb (refusal n m (beside p)) 0) sizes poster in
    let stage : T (not (outside 1 (rounds_in p n) 1)) = round_fits (rounds_in p n) 1 (omega arith) (omega (arith, rounds_in_some p n)) in
    let small : T (ltb (fresh_vote p) 2) = fresh_vote_fits p in
    let record_fits : T (all (byte_fits m (part (brought p own bytes) 0 32)) 32) = bytes_fit m (part (brought p own bytes) 0 32) (λ q l u. brought_past p m own bytes h q l) in
    let flags : T (all (flag_fits n (replicate 31 false)) 31) = flags_fit n (replicate 31 false) (λ i l u. get_or-replicate 31 i false false u) in
    let points : T (all (point_fits (blocks n m) (replicate 32 blank)) 32) = points_fit (blocks n m) (replicate 32 blank) (λ k u. rw (get_or-replicate 32 k blank blank u) refl) (λ k u l. get_or-replicate 32 k blank blank u) in
    search conjunction depth 12
