-- The laws of dissemination: what the code sends and keeps is what the definitions say, value by value.
use Rattle.std.specs.Prelude.{◌≡◌, Bool, true, false, List, ◌++◌, eqb, ltb, length, get_or, take, drop, replicate}
use Rattle.std.proofs.Math.Path.{refl, ap}
use Rattle.std.proofs.Common.{sym, ◌∙◌, arith, ext_get_or, get_or-take, length-take-le}
use Rattle.std.proofs.Math.Bool.{cond}
use Rattle.std.proofs.Math.Option.{Option, none, some}
use Prim.Native.Nat.{ℕ, zero, suc, ◌+◌, ◌-◌, ◌*◌, ◌≤◌, ◌<◌}
use borrow.Author.Tests.{lt-ltb, le-ltb}
use Rattle.lists.specs.Lists.{all, list_of, rows_of}
use Rattle.lists.specs.Entries.{length_list_of, get_d_list_of, get_d_within, list_of_same}
use Rattle.lists.specs.Rows.{row_fits, rows_of_same}
use Rattle.field.specs.Field.{blank}
use Rattle.sizes.specs.Sizes.{blocks, refusal}
use Rattle.sizes.proofs.Laws.{accepted, few_blocks}
use Rattle.messages.specs.Messages.{read_point, said, from, to_all, laid, heard, heard_of_all}
use Rattle.messages.proofs.Laws.{said_laid, from_place, from_heard, heard_same}
use Rattle.codeword.specs.Codeword.{values, codewords, across, written_across}
use Rattle.codeword.specs.Apart.{length_values}
use Rattle.codeword.specs.Words.{across_is, across_written}
use Rattle.dissemination.specs.Dissemination.{spoken, points_in, point_at, points, points_to_all, kept_point, kept_at, kept_points, is_block, byte_at, record_of}
use Rattle.dissemination.proofs.Kept.{kept_same, kept_unread, kept_reads}
use Rattle.dissemination.specs.Laws.{silenced, read_at, heard_of, kept_from}

pub said_silenced : (speaks : Bool) (message : List ℕ) (k : ℕ) → said (silenced speaks message) k ≡ said (spoken speaks message) k
unfolding silenced spoken said
said_silenced true message k = refl
said_silenced false message k = blanks 32 k
  where
    blanks : (w k : ℕ) → get_or (replicate w blank) k blank ≡ blank
    blanks zero k = refl
    blanks (suc w) zero = refl
    blanks (suc w) (suc k) = blanks w k

-- the points of block k that were read from the values of all columns
pub points_read : (n own : ℕ) (mine : List ℕ) (w : ℕ) (inbox : List ℕ) (k j : ℕ) → 1 ≤ j → j ≤ n → n ≤ 31
    → from (list_of (read_at (heard_of_all n own mine w inbox k)) 31) j ≡ points_in own mine w inbox k j
unfolding from said read_at points_in
points_read n own mine w inbox k j l u h =
    get_d_list_of (read_at (heard_of_all n own mine w inbox k)) 31 (j - 1) blank (omega arith) ∙ ap read_point (from_heard own mine w inbox n k j l u h)

-- the first n of them, as the decoder gets them
pub points_taken : (n own : ℕ) (mine : List ℕ) (w : ℕ) (inbox : List ℕ) (k : ℕ) → n ≤ 31
    → take n (list_of (read_at (heard_of_all n own mine w inbox k)) 31) ≡ list_of (point_at (points_in own mine w inbox k)) n
unfolding said point_at
points_taken n own mine w inbox k h =
    ext_get_or blank (take n read) (list_of (point_at came) n) (long ∙ sym (length_list_of (point_at came) n)) (λ i l.
    let l' : i < n = omega (arith, long) in
    get_or-take n read i blank l' ∙ sym (from_place read i) ∙ points_read n own mine w inbox k (i + 1) (omega arith) (omega arith) h
    ∙ sym (get_d_list_of (point_at came) n i blank l'))
  where
    read : List ℕ
    read = list_of (read_at (heard_of_all n own mine w inbox k)) 31

    came : ℕ → ℕ
    came = points_in own mine w inbox k

    long : length (take n read) ≡ n
    long = length-take-le n read (omega (arith, length_list_of (read_at (heard_of_all n own mine w inbox k)) 31))

-- THE CALLS OF THE FIRST ROUND

-- the column's own message, in 32 places
pub said_own : (n m : ℕ) (speaks : Bool) (bytes : List ℕ) (x : ℕ) → blocks n m ≤ 32 → (all : List ℕ) → all ≡ laid 32 (values n m bytes x)
    → (k : ℕ) → said (silenced speaks all) k ≡ said (points n m speaks bytes x) k
unfolding points spoken
said_own n m speaks bytes x h all e k = said_silenced speaks all k ∙ rw e (go speaks)
  where
    go : (b : Bool) → said (spoken b (laid 32 (values n m bytes x))) k ≡ said (spoken b (values n m bytes x)) k
    go true = said_laid 32 (values n m bytes x) k (omega (arith, length_values n m bytes x))
    go false = refl

-- what the codewords have at the place of column j
unfoldable pub points_across : List ℕ → ℕ → ℕ → ℕ
points_across words j k = across words (j - 1) k

-- it was written for column j + 1
pub across_row : (n b : ℕ) (words : List ℕ) (j : ℕ) (part : List ℕ) → refusal n 1 (j + 1) ≡ 0 → b ≤ length part → 32 * b ≤ length words
    → written_across n b words (j + 1) part ≡ list_of (points_across words (j + 1)) b ++ drop b part
unfolding points_across
across_row n b words j part r h u = across_written n b words (j + 1) part r h u

pub points_are : (n m : ℕ) (bytes : List ℕ) (b : ℕ) (words : List ℕ) → refusal n m 1 ≡ 0 → b ≡ blocks n m → words ≡ codewords n m bytes
    → rows_of (points_across words) b n ≡ points_to_all n m true bytes
unfolding points_across points_to_all points spoken
points_are n m bytes b words r e f =
    rw (e, f) (rows_of_same (points_across (codewords n m bytes)) (λ j. said (points n m true bytes j)) (blocks n m) n (λ j k l u h.
    let place : j - 1 + 1 ≡ j = omega arith in
    across_is n m bytes (j - 1) k (omega (arith, (accepted n m 1 r).range.columns_high)) (omega (arith, few_blocks n m 1 r))
    ∙ ap (λ (x : ℕ). said (values n m bytes x) k) place))

-- blanks are the points of a column that does not speak
pub points_none : (n m : ℕ) (speaks : Bool) (bytes other : List ℕ) → speaks ≡ false → to_all n (blocks n m) (spoken false other) ≡ points_to_all n m speaks bytes
unfolding to_all points_to_all points spoken
points_none n m speaks bytes other e = rw e refl

module _ (n own : ℕ) (mine : List ℕ) (b : ℕ) (inbox : List ℕ) (k : ℕ) where
  heard_of_lem : (j : ℕ) → (j - 1) * b + k < length inbox → heard_of own (said mine k) b inbox k j ≡ heard own mine b inbox j k
  unfolding heard_of heard
  heard_of_lem j h = ap (λ (v : ℕ). cond (eqb j own) (said mine k) v) (get_d_within inbox ((j - 1) * b + k) 0 blank h)

  -- of the values as they came
  pub kept_from_lem : k < b → n * b ≡ length inbox → kept_point n (heard_of own (said mine k) b inbox k) ≡ kept_from n own mine b inbox k
  unfolding kept_from points_in
  kept_from_lem l long =
      rw (lt-ltb k b l) (kept_unread n (heard_of own (said mine k) b inbox k) (points_in own mine b inbox k) (λ j a u.
      ap read_point (heard_of_lem j (omega (arith, long, row_fits b (j - 1) n (omega arith))))))

  pub kept_past : b ≤ k → blank ≡ kept_from n own mine b inbox k
  unfolding kept_from
  kept_past h = simp (le-ltb k b h)

-- the kept points of all blocks
pub kept_are : (n m own : ℕ) (speaks : Bool) (bytes inbox : List ℕ) (b : ℕ) (mine : List ℕ) → b ≡ blocks n m → ((i : ℕ) → said mine i ≡ said (points n m speaks bytes own) i)
    → list_of (kept_from n own mine b inbox) 32 ≡ kept_points n m own speaks bytes inbox
unfolding kept_from kept_points kept_at points_in
kept_are n m own speaks bytes inbox b mine e f =
    rw e (list_of_same (kept_from n own mine (blocks n m) inbox) (kept_at n m own speaks bytes inbox) 32 (λ k _.
    ap (λ (p : ℕ). cond (ltb k (blocks n m)) p blank)
    (kept_same n (points_in own mine (blocks n m) inbox k) (points_in own (points n m speaks bytes own) (blocks n m) inbox k) (λ j _ _.
    ap read_point (heard_same own mine (blocks n m) inbox (points n m speaks bytes own) j k (f k))))))

-- THE RANGES OF WHAT A COLUMN KEEPS

module _ (n m own : ℕ) (speaks : Bool) (bytes inbox : List ℕ) (k : ℕ) (h : k < 32) where
  -- a kept point is a point or blank
  pub kept_points_read : read_point (get_or (kept_points n m own speaks bytes inbox) k blank) ≡ get_or (kept_points n m own speaks bytes inbox) k blank
  unfolding kept_points kept_at read_point
  kept_points_read = rw (get_d_list_of (kept_at n m own speaks bytes inbox) 32 k blank h) (go (ltb k (blocks n m)))
    where
      p : ℕ
      p = kept_point n (points_in own (points n m speaks bytes own) (blocks n m) inbox k)

      go : (b : Bool) → read_point (cond b p blank) ≡ cond b p blank
      go true = kept_reads n (points_in own (points n m speaks bytes own) (blocks n m) inbox k)
      go false = refl

  -- and blank past the blocks
  pub kept_points_past : blocks n m ≤ k → get_or (kept_points n m own speaks bytes inbox) k blank ≡ blank
  unfolding kept_points kept_at
  kept_points_past l = get_d_list_of (kept_at n m own speaks bytes inbox) 32 k blank h ∙ rw (le-ltb k (blocks n m) l)

-- a decoded record has zeros past m
pub record_past : (n m : ℕ) (received : ℕ → ℕ → ℕ) (r : List ℕ) (p : ℕ) → record_of n m received ≡ some r → m ≤ p → p < 32 → get_or r p 0 ≡ 0
unfolding record_of byte_at
record_past n m received r p e h l = go (all (is_block n m received) (blocks n m)) e
  where
    zero_there : get_or (list_of (byte_at n m received) 32) p 0 ≡ 0
    zero_there = get_d_list_of (byte_at n m received) 32 p 0 l ∙ rw (le-ltb p m h)

    go : (b : Bool) → ◌≡◌ {A = Option (List ℕ)} (cond b (some (list_of (byte_at n m received) 32)) none) (some r) → get_or r p 0 ≡ 0
    go true q = let s : list_of (byte_at n m received) 32 ≡ r = cc in rw s at zero_there
    go false q = let z : ◌≡◌ {A = ℕ} 0 1 = cc in absurd (omega arith)
