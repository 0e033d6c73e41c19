-- No accepted sheet, of any protocol, is longer than 42,565 bytes, and so the first 42,566 bytes of an input, or more of them, have
-- the listing of the whole.
use Rattle.std.specs.Prelude.{◌≡◌, Bool, List, leb, length, take, get_or}
use Rattle.std.proofs.Math.Path.{refl, ap}
use Rattle.std.proofs.Math.Bool.{true, false}
use Prim.Native.Nat.{ℕ, zero, suc, ◌+◌, ◌*◌, ◌≤◌, ◌<◌}
use Rattle.std.proofs.Common.{mul-le-mul, arith, take_all, length-take-le, get_or-take}
use Rattle.std.proofs.Math.Decide.{dec_le}
use borrow.Author.Tests.{leb-true, le-ltb, eqb-true, ne_eqb}
use Rattle.std.proofs.Math.Dec.{eqb, ltb}
use Rattle.lists.specs.Lists.{all}
use Rattle.lists.specs.Entries.{all_same}
use Rattle.lists.specs.Count.{count_same}
use Rattle.protocols.specs.declared.Protocol.{Protocol}
use Rattle.sizes.specs.Sizes.{faults, degree, blocks, refusal as refusal_of_sizes}
use Rattle.sizes.specs.Laws.{InRange, Sized}
use Rattle.sizes.proofs.Laws.{sized, accepted as accepted_sizes}
use Rattle.protocols.specs.Protocols.{line_in, beside}
use Rattle.protocols.proofs.Laws.{line_le}
use Rattle.sheet.specs.Sheet.{columns, bytes, mark, unsound, unsound_to, arrays, whole, mark_fits, in_order, refusal_of_marks, refusal as refusal_of_sheet}
use Rattle.wall_run.specs.Run.{refusal}
use Rattle.wall_run.specs.Row.{accepted_run, run_refused}
use Rattle.listing.specs.Listing.{listing_of}

-- THE LONGEST SHEET

-- by bounds for n, t and the values of a line: N, T and L
bounded : (line n m u N T L : ℕ) → InRange n m → u ≤ faults n → n ≤ N → faults n ≤ T → line ≤ L → whole line n m u ≤ 2 + N + N * 32 + 2 * (T * N * L)
unfolding whole arrays
bounded line n m u N T L r few hn ht hl =
    let un : u * n ≤ T * N = mul-le-mul (omega arith) hn in
    omega (arith, mul-le-mul {n₁ = n} {m₁ = m} {n₂ = N} {m₂ = 32} hn r.bytes_high, mul-le-mul un hl)

-- by the degree of a block: with more columns there are fewer blocks
whole_le : (p : Protocol) (n m u : ℕ) → InRange n m → u ≤ faults n → whole (line_in p n m) n m u ≤ 42565
whole_le p n m u r few = go (degree n) (sized n m r) refl
  where
    -- of at most N columns, T of them unsound, and B blocks
    by : (N T B : ℕ) → n ≤ N → faults n ≤ T → blocks n m ≤ B → whole (line_in p n m) n m u ≤ 2 + N + N * 32 + 2 * (T * N * (4 * B + 35))
    by N T B hn ht hb =
        bounded (line_in p n m) n m u N T (4 * B + 35) r few hn ht (omega (arith, line_le p n m 35 (omega (arith, (sized n m r).faults_high)) (omega (arith, r.bytes_high))))

    go : (d : ℕ) → Sized n m → degree n ≡ d → whole (line_in p n m) n m u ≤ 42565
    go zero z e =
        let t : faults n ≤ 2 = omega (arith, z.degree_most) in
        omega (arith, by 9 2 32 (omega (arith, z.faults_most)) t (omega (arith, z.blocks_high, r.bytes_high)))
    go (suc zero) z e =
        let t : faults n ≤ 5 = omega (arith, z.degree_most) in
        omega (arith, by 18 5 16 (omega (arith, z.faults_most)) t (omega (arith, rw e at z.blocks_least, r.bytes_high)))
    go (suc (suc zero)) z e =
        let t : faults n ≤ 8 = omega (arith, z.degree_most) in
        omega (arith, by 27 8 11 (omega (arith, z.faults_most)) t (omega (arith, rw e at z.blocks_least, r.bytes_high)))
    go (suc (suc (suc zero))) z e =
        omega (arith, by 31 10 8 r.columns_high z.faults_high (omega (arith, rw e at z.blocks_least, r.bytes_high)))
    go (suc (suc (suc (suc d)))) z e = absurd (omega (arith, z.degree_high))

-- a sheet that nothing refuses is no longer
pub longest : (p : Protocol) (sheet : List ℕ) (rows : ℕ) → refusal p sheet rows ≡ 0 → length sheet ≤ 42565
longest p sheet rows e =
    let a = (accepted_run p sheet rows e).0 in
    rw a.well_marked.full (whole_le p (columns sheet) (bytes sheet) (unsound_to sheet (columns sheet)) a.arrays_there.range a.well_marked.few)

-- two sheets that are too long and begin with the same bytes: what is read of them before their length stands there
module _ (p : Protocol) (a b : List ℕ) (la : 42565 < length a) (lb : 42565 < length b) (same : (i : ℕ) → i ≤ 42565 → get_or a i 0 ≡ get_or b i 0) where
  same_columns : columns a ≡ columns b
  unfolding columns
  same_columns = same 0 (omega arith)

  same_bytes : bytes a ≡ bytes b
  unfolding bytes
  same_bytes = same 1 (omega arith)

  same_fits : columns b ≤ 31 → all (mark_fits a) (columns b) ≡ all (mark_fits b) (columns b)
  unfolding mark_fits mark
  same_fits h = all_same (mark_fits a) (mark_fits b) (columns b) (λ i l. ap (λ (x : ℕ). ltb x 2) (same (i + 1 + 1) (omega arith)))

  same_unsound : columns b ≤ 31 → unsound_to a (columns b) ≡ unsound_to b (columns b)
  unfolding unsound_to unsound mark
  same_unsound h = count_same (unsound a) (unsound b) (columns b) (λ i l u. ap (λ (x : ℕ). eqb x 1) (same (i + 1) (omega arith)))

  -- neither has its full length
  same_marks : InRange (columns b) (bytes b) → refusal_of_marks (line_in p (columns b) (bytes b)) a ≡ refusal_of_marks (line_in p (columns b) (bytes b)) b
  unfolding refusal_of_marks in_order
  same_marks r = go (leb u (faults (columns b))) refl
    where
      u : ℕ
      u = unsound_to b (columns b)

      full : ℕ
      full = whole (line_in p (columns b) (bytes b)) (columns b) (bytes b) u

      go : (t : Bool) → leb u (faults (columns b)) ≡ t → refusal_of_marks (line_in p (columns b) (bytes b)) a ≡ refusal_of_marks (line_in p (columns b) (bytes b)) b
      go false e = simp (same_columns, same_bytes, same_fits r.columns_high, same_unsound r.columns_high, e)
      go true e =
          let w : full ≤ 42565 = whole_le p (columns b) (bytes b) u r (leb-true _ _ e) in
          let na = ne_eqb (length a) full (λ q. omega arith) in
          let nb = ne_eqb (length b) full (λ q. omega arith) in
          simp (same_columns, same_bytes, same_fits r.columns_high, same_unsound r.columns_high, e, na, nb)

  same_refusal : refusal p a (columns a) ≡ refusal p b (columns b)
  unfolding refusal refusal_of_sheet whole
  same_refusal = go (eqb (refusal_of_sizes (columns b) (bytes b) (beside p)) 0) refl
    where
      go : (t : Bool) → eqb (refusal_of_sizes (columns b) (bytes b) (beside p)) 0 ≡ t → refusal p a (columns a) ≡ refusal p b (columns b)
      go true e =
          let r = (accepted_sizes (columns b) (bytes b) (beside p) (eqb-true _ 0 e)).range in
          let w = whole_le p (columns b) (bytes b) 0 r (omega arith) in
          let na = le-ltb (length a) (arrays (columns b) (bytes b)) (omega arith) in
          let nb = le-ltb (length b) (arrays (columns b) (bytes b)) (omega arith) in
          simp (same_columns, same_bytes, le-ltb (length a) 2 (omega arith), le-ltb (length b) 2 (omega arith), e, na, nb, same_marks r)
      go false e = simp (same_columns, same_bytes, le-ltb (length a) 2 (omega arith), le-ltb (length b) 2 (omega arith), e)

  same_listing : listing_of p a ≡ listing_of p b
  unfolding listing_of
  same_listing =
      rw (
        run_refused p a (columns a) (λ e. omega (arith, longest p a (columns a) e)),
        run_refused p b (columns b) (λ e. omega (arith, longest p b (columns b) e)),
        same_refusal,
        same_columns,
        same_bytes,
      ) refl

-- reading more than 42,565 bytes of a sheet loses nothing
pub cut_alike : (p : Protocol) (k : ℕ) → 42565 < k → (sheet : List ℕ) → listing_of p (take k sheet) ≡ listing_of p sheet
cut_alike p k more sheet = go (dec_le (length sheet) k)
  where
    go : Dec (length sheet ≤ k) → listing_of p (take k sheet) ≡ listing_of p sheet
    go (yes h) = ap (listing_of p) (take_all k sheet h)
    go (no h) =
        same_listing p (take k sheet) sheet (omega (arith, length-take-le k sheet (omega arith))) (omega arith)
        (λ i l. get_or-take k sheet i 0 (omega arith))
