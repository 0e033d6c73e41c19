-- The laws of dispersal: what the code sends and compares is what the definitions say, value by value.
use Rattle.std.specs.Prelude.{◌≡◌, Bool, cond, ◌&&◌, ◌||◌, List, ◌++◌, ℕ, ◌+◌, ◌-◌, ◌*◌, ◌≤◌, ◌<◌, T, ltb, leb, length, get_or, take, drop, replicate}
use Rattle.std.proofs.Math.Path.{refl, sym, ap₂}
use Rattle.std.proofs.Common.{ap, ◌∙◌, append_assoc, append-nil, eqb→eq, length-append, length-drop, take_at, drop_at, drop-drop, get_or-append-add}
use Rattle.std.proofs.Math.Bool.{true, false}
use native.Mathlib.Omega.{arith}
use Rattle.std.proofs.Math.Decide.{dec_lt}
use borrow.Author.Tests.{lt-ltb, le-ltb, eq-eqb, ne_eqb, eqb-true, eqb-false}
use Rattle.std.proofs.Math.Dec.{eqb}
use Rattle.std.proofs.Math.ListN.{get_or-append}
use Rattle.lists.specs.Lists.{count, all, list_of, rows_of}
use Rattle.lists.specs.Tests.{conj, and_left, and_right, and_both, is_true, T_ext, eq→eqb}
use Rattle.lists.specs.Entries.{all_each, each_all, all_same, length_list_of, get_d_list_of, get_d_within, list_of_same, list_of_cut}
use Rattle.lists.specs.Rows.{row_fits, rows_of_same}
use Rattle.lists.specs.Loops.{all_of, none_behind}
use Rattle.lists.specs.Count.{count_same}
use Rattle.field.specs.Field.{blank}
use Rattle.sizes.specs.Sizes.{faults, blocks, refusal}
use Rattle.sizes.specs.Laws.{Accepted}
use Rattle.sizes.proofs.Laws.{accepted, few_blocks, column_of_lem}
use Rattle.messages.specs.Messages.{read_point, read_report, said, heard, times}
use Rattle.messages.proofs.Laws.{point_is, same_report, same_point, heard_own, heard_other}
use Rattle.codeword.specs.Codeword.{point, values, meet_in, meets, codewords, across, written_across}
use Rattle.codeword.specs.Apart.{point_lt, length_values, said_values}
use Rattle.codeword.specs.Words.{across_is, across_written, length_codewords}
use Rattle.dispersal.specs.Dispersal.{exchange, exchanges, agrees_in, agrees_with, agreement_at, agreements, agrees, report_at, reports, reported, both, second_quorum, read_reports, grade}

-- THE MESSAGE OF THE EXCHANGE

module _ (n m own : ℕ) (bytes : List ℕ) (j : ℕ) where
  pub first_value : (k : ℕ) → k < blocks n m → said (exchange n m own bytes j) k ≡ point n bytes own k
  unfolding exchange said
  first_value k h =
      get_or-append (values n m bytes own) (values n m bytes j) blank k (omega (arith, length_values n m bytes own)) ∙ said_values n m bytes own k h

  pub second_value : (k : ℕ) → said (exchange n m own bytes j) (blocks n m + k) ≡ said (values n m bytes j) k
  unfolding exchange said
  second_value k = rw (length_values n m bytes own) at (get_or-append-add (values n m bytes own) (values n m bytes j) k blank)

-- what b codewords have at the place of the column `own`, then what they have at that of column j
unfoldable pub paired : ℕ → List ℕ → ℕ → ℕ → ℕ → ℕ
paired b words own j k = cond (ltb k b) (across words (own - 1) k) (across words (j - 1) (k - b))

paired_list : (b : ℕ) (words : List ℕ) (own j : ℕ) → list_of (across words (own - 1)) b ++ list_of (across words (j - 1)) b ≡ list_of (paired b words own j) (2 * b)
unfolding paired
paired_list b words own j =
    let twice : 2 * b ≡ b + b = omega arith in
    rw (twice, list_of_cut (paired b words own j) b b)
    (ap₂ {C = List ℕ} (λ x y. x ++ y)
    (list_of_same (across words (own - 1)) (paired b words own j) b (λ k l. simp (lt-ltb k b l)))
    (list_of_same (across words (j - 1)) (λ k. paired b words own j (b + k)) b (λ k l.
    let e : b + k - b ≡ k = omega arith in
    rw (le-ltb (b + k) b (omega arith), e) refl)))

-- the own were written to the front of a part that has room for both
module _ (n b : ℕ) (words : List ℕ) (own : ℕ) (d d₁ : List ℕ) (ho : refusal n 1 own ≡ 0) (hw : 32 * b ≤ length words) (room : 2 * b ≤ length d)
    (p : d₁ ≡ written_across n b words own d) where
  own_written : d₁ ≡ list_of (across words (own - 1)) b ++ drop b d
  own_written = p ∙ across_written n b words own d ho (omega arith) hw

  -- so there is room behind them
  pub room_behind : b ≤ length (take (length d₁ - b) (drop b d₁))
  room_behind =
      let size : length d₁ ≡ b + (length d - b) =
      ap (λ (l : List ℕ). length l) own_written
      ∙ simp (length-append, length_list_of (across words (own - 1)) b, length-drop) refl in
      rw (all_of d₁ b) (omega (arith, length-drop b d₁, size))

-- both were written, those of column j through the part that starts behind the own
pub paired_written : (n b : ℕ) (words : List ℕ) (own j : ℕ) (d d₁ e : List ℕ) → refusal n 1 own ≡ 0 → refusal n 1 j ≡ 0 → 32 * b ≤ length words → 2 * b ≤ length d
    → d₁ ≡ written_across n b words own d → e ≡ written_across n b words j (take (length d₁ - b) (drop b d₁))
    → take b d₁ ++ (e ++ drop (length d₁ - b) (drop b d₁)) ≡ list_of (paired b words own j) (2 * b) ++ drop (2 * b) d
paired_written n b words own j d d₁ e ho hj hw room p q =
    let twice : 2 * b ≡ b + b = omega arith in
    rw (
      none_behind d₁ b,
      append-nil,
      q,
      all_of d₁ b,
      first,
      take_at mine (drop b d) b size,
      drop_at mine (drop b d) b size,
      across_written n b words j (drop b d) hj (omega (arith, length-drop b d)) hw,
      drop-drop,
      ← append_assoc,
      paired_list b words own j,
      twice,
    ) refl
  where
    mine : List ℕ
    mine = list_of (across words (own - 1)) b

    size : length mine ≡ b
    size = length_list_of (across words (own - 1)) b

    first : d₁ ≡ mine ++ drop b d
    first = own_written n b words own d d₁ ho hw room p

-- they are the messages of the exchange
pub paired_is : (n m own : ℕ) (bytes : List ℕ) (b : ℕ) (words : List ℕ) → refusal n m own ≡ 0 → b ≡ blocks n m → words ≡ codewords n m bytes
    → rows_of (paired b words own) (2 * b) n ≡ exchanges n m own bytes
unfolding paired exchanges
paired_is n m own bytes b words r e f =
    rw (e, f) (rows_of_same (paired (blocks n m) (codewords n m bytes) own) (λ j. said (exchange n m own bytes j)) (2 * blocks n m) n (λ j k l u h.
    go j k (omega (arith, a.range.columns_high)) l h (dec_lt k (blocks n m))))
  where
    a : Accepted n m own
    a = accepted n m own r

    few : blocks n m ≤ 32
    few = few_blocks n m own r

    at : (x k : ℕ) → 1 ≤ x → x ≤ 32 → k < 32 → across (codewords n m bytes) (x - 1) k ≡ said (values n m bytes x) k
    at x k l u h =
        let place : x - 1 + 1 ≡ x = omega arith in
        across_is n m bytes (x - 1) k (omega arith) h ∙ ap (λ (y : ℕ). said (values n m bytes y) k) place

    go : (j k : ℕ) → j ≤ 32 → 1 ≤ j → k < 2 * blocks n m → Dec (k < blocks n m) → paired (blocks n m) (codewords n m bytes) own j k ≡ said (exchange n m own bytes j) k
    go j k u l h (yes s) =
        rw (lt-ltb k (blocks n m) s)
        (at own k a.number_low (omega (arith, a.number_high, a.range.columns_high)) (omega (arith, few))
        ∙ said_values n m bytes own k s ∙ sym (first_value n m own bytes j k s))
    go j k u l h (no s) =
        let back : blocks n m + (k - blocks n m) ≡ k = omega arith in
        rw (le-ltb k (blocks n m) (omega arith))
        (at j (k - blocks n m) l u (omega (arith, few)) ∙ sym (rw back at (second_value n m own bytes j (k - blocks n m))))

-- AGREEMENT

module _ (n m own : ℕ) (bytes : List ℕ) (j : ℕ) (received : ℕ → ℕ) where
  agrees_in_lem : T (agrees_with n m own bytes j received) → (k : ℕ) → k < blocks n m
      → T (eqb (read_point (received k)) (point n bytes j k) && eqb (read_point (received (blocks n m + k))) (point n bytes own k))
  unfolding agrees_with agrees_in
  agrees_in_lem h k l = all_each (agrees_in n m own bytes j received) (blocks n m) h k l

  pub first_agrees : T (agrees_with n m own bytes j received) → (k : ℕ) → k < blocks n m → read_point (received k) ≡ point n bytes j k
  first_agrees h k l = eqb→eq (read_point (received k)) (point n bytes j k) (let p = agrees_in_lem h k l in search conj)

  pub second_agrees : T (agrees_with n m own bytes j received) → (k : ℕ) → k < blocks n m → read_point (received (blocks n m + k)) ≡ point n bytes own k
  second_agrees h k l = eqb→eq (read_point (received (blocks n m + k))) (point n bytes own k) (let p = agrees_in_lem h k l in search conj)

  pub both_agree : ((k : ℕ) → k < blocks n m → read_point (received k) ≡ point n bytes j k)
      → ((k : ℕ) → k < blocks n m → read_point (received (blocks n m + k)) ≡ point n bytes own k) → T (agrees_with n m own bytes j received)
  unfolding agrees_with agrees_in
  both_agree f g = each_all (agrees_in n m own bytes j received) (blocks n m) (λ k l.
      and_both (eqb (read_point (received k)) (point n bytes j k)) (eqb (read_point (received (blocks n m + k))) (point n bytes own k))
      (eq→eqb (read_point (received k)) (point n bytes j k) (f k l)) (eq→eqb (read_point (received (blocks n m + k))) (point n bytes own k) (g k l)))

-- the value k places behind place `at` is what codeword k has at place i
unfoldable pub same_at : List ℕ → ℕ → List ℕ → ℕ → ℕ → Bool
same_at words i inbox at k = eqb (get_or inbox (at + k) 0) (across words i k)

-- and is what `mine` has at place k
unfoldable pub same_as : List ℕ → List ℕ → ℕ → ℕ → Bool
same_as mine inbox at k = eqb (get_or inbox (at + k) 0) (get_or mine k 0)

-- the flag of column i + 1, by the codewords of the record and its values at the own point
unfoldable pub agrees_across : ℕ → ℕ → ℕ → List ℕ → List ℕ → List ℕ → ℕ → Bool
agrees_across n b own words mine inbox i =
    ltb i n && (eqb (i + 1) own || (all (same_at words i inbox (i * (2 * b))) b && all (same_as mine inbox (i * (2 * b) + b)) b))

module _ (n b own : ℕ) (words mine inbox : List ℕ) (i : ℕ) where
  pub agrees_past : n ≤ i → false ≡ agrees_across n b own words mine inbox i
  unfolding agrees_across
  agrees_past h = simp (le-ltb i n h)

  module _ (l : i < n) where
    pub agrees_itself : i + 1 ≡ own → true ≡ agrees_across n b own words mine inbox i
    unfolding agrees_across
    agrees_itself e = simp (lt-ltb i n l, eq-eqb (i + 1) own e)

    -- with another column: `at` is where its message begins
    module _ (other : i + 1 ≡ own → ⊥) (at : ℕ) (e : at ≡ i * (2 * b) + 0) where
      both_halves : agrees_across n b own words mine inbox i ≡ all (same_at words i inbox at) b && all (same_as mine inbox (at + b)) b
      unfolding agrees_across
      both_halves =
          let f : at ≡ i * (2 * b) = omega arith in
          rw (lt-ltb i n l, ne_eqb (i + 1) own other, f) refl

      pub agrees_not : all (same_at words i inbox at) b ≡ false → false ≡ agrees_across n b own words mine inbox i
      agrees_not h = sym (both_halves ∙ rw h refl)

      pub agrees_other : all (same_at words i inbox at) b ≡ true → (r : Bool) → r ≡ all (same_as mine inbox (at + b)) b → r ≡ agrees_across n b own words mine inbox i
      agrees_other h r f = f ∙ sym (both_halves ∙ rw h refl)

-- each passes both tests
all_both : (P Q : ℕ → Bool) (n : ℕ) → all P n && all Q n ≡ all (both P Q) n
unfolding both
all_both P Q n = T_ext (all P n && all Q n) (all (both P Q) n)
    (λ h. each_all (both P Q) n (λ k l.
    and_both (P k) (Q k) (all_each P n (and_left (all P n) (all Q n) h) k l) (all_each Q n (and_right (all P n) (all Q n) h) k l)))
    (λ h. and_both (all P n) (all Q n)
    (each_all P n (λ k l. and_left (P k) (Q k) (all_each (both P Q) n h k l))) (each_all Q n (λ k l. and_right (P k) (Q k) (all_each (both P Q) n h k l))))

-- what the column hears from column i + 1
abbrev hears : ℕ → ℕ → ℕ → List ℕ → List ℕ → ℕ → ℕ → ℕ
hears n m own bytes inbox i = heard own (exchange n m own bytes own) (2 * blocks n m) inbox (i + 1)

module _ (n m own : ℕ) (bytes inbox : List ℕ) (i : ℕ) where
  -- with itself it agrees
  with_itself : i + 1 ≡ own → T (agrees_with n m own bytes (i + 1) (hears n m own bytes inbox i))
  with_itself e =
      both_agree n m own bytes (i + 1) (hears n m own bytes inbox i)
      (λ k h. is_own k k (first_value n m own bytes own k h) ∙ ap (λ (x : ℕ). point n bytes x k) (sym e))
      (λ k h. is_own (blocks n m + k) k (second_value n m own bytes own k ∙ said_values n m bytes own k h))
    where
      is_own : (q k : ℕ) → said (exchange n m own bytes own) q ≡ point n bytes own k → read_point (hears n m own bytes inbox i q) ≡ point n bytes own k
      is_own q k h =
          ap read_point (heard_own own (exchange n m own bytes own) (2 * blocks n m) inbox (i + 1) q e ∙ h) ∙ point_is (point n bytes own k) (point_lt n bytes own k)

  -- value q from another column, held to the value of block k at the point x
  held_to : n * (2 * blocks n m) ≡ length inbox → i < n → (i + 1 ≡ own → ⊥) → (x q k v : ℕ) → v ≡ point n bytes x k → q < 2 * blocks n m
      → eqb (get_or inbox (i * (2 * blocks n m) + q) 0) v ≡ eqb (read_point (hears n m own bytes inbox i q)) (point n bytes x k)
  held_to long l other x q k v is u =
      let row : i + 1 - 1 ≡ i = omega arith in
      let place : get_or inbox (i * (2 * blocks n m) + q) 0 ≡ hears n m own bytes inbox i q =
      get_d_within inbox (i * (2 * blocks n m) + q) 0 blank (omega (arith, long, row_fits (2 * blocks n m) i n l))
      ∙ sym (heard_other own (exchange n m own bytes own) (2 * blocks n m) inbox (i + 1) q other ∙ ap (λ (j : ℕ). get_or inbox (j * (2 * blocks n m) + q) blank) row) in
      ap₂ {C = Bool} (λ v p. eqb v p) place is ∙ sym (same_point (hears n m own bytes inbox i q) (point n bytes x k) (point_lt n bytes x k))

module _ (n m own : ℕ) (bytes inbox words mine : List ℕ) (r : refusal n m own ≡ 0) (long : n * (2 * blocks n m) ≡ length inbox)
    (f : words ≡ codewords n m bytes) (g : mine ≡ written_across n (blocks n m) words own (replicate 32 blank)) where
  abbrev b : ℕ
  b = blocks n m

  a : Accepted n m own
  a = accepted n m own r

  few : b ≤ 32
  few = few_blocks n m own r

  -- what codeword k has at place x
  word_at : (x k : ℕ) → x < 32 → k < b → across words x k ≡ point n bytes (x + 1) k
  word_at x k h l = rw f (across_is n m bytes x k h (omega (arith, few)) ∙ said_values n m bytes (x + 1) k l)

  -- and at the own place
  mine_at : (k : ℕ) → k < b → get_or mine k 0 ≡ point n bytes own k
  mine_at k l =
      let place : own - 1 + 1 ≡ own = omega (arith, a.number_low) in
      let sizes : refusal n 1 own ≡ 0 = column_of_lem n m own own r a.number_low a.number_high in
      let all_there : 32 * b ≤ length words = rw f (omega (arith, few, length_codewords n m bytes)) in
      rw (g, across_written n b words own (replicate 32 blank) sizes few all_there)
      (get_or-append (list_of (across words (own - 1)) b) (drop b (replicate 32 blank)) 0 k (omega (arith, length_list_of (across words (own - 1)) b))
      ∙ get_d_list_of (across words (own - 1)) b k 0 l
      ∙ word_at (own - 1) k (omega (arith, a.number_high, a.range.columns_high)) l
      ∙ ap (λ (x : ℕ). point n bytes x k) place)

  module _ (i : ℕ) where
    abbrev P : ℕ → Bool
    P = same_at words i inbox (i * (2 * b))

    abbrev Q : ℕ → Bool
    Q = same_as mine inbox (i * (2 * b) + b)

    each : i < n → (i + 1 ≡ own → ⊥) → (k : ℕ) → k < b → both P Q k ≡ agrees_in n m own bytes (i + 1) (hears n m own bytes inbox i) k
    unfolding both agrees_in same_at same_as
    each l other k h =
        let next : i * (2 * b) + b + k ≡ i * (2 * b) + (b + k) = omega arith in
        let first : P k ≡ eqb (read_point (hears n m own bytes inbox i k)) (point n bytes (i + 1) k) =
        held_to n m own bytes inbox i long l other (i + 1) k k (across words i k) (word_at i k (omega (arith, a.range.columns_high)) h) (omega arith) in
        let second : Q k ≡ eqb (read_point (hears n m own bytes inbox i (b + k))) (point n bytes own k) =
        rw next (held_to n m own bytes inbox i long l other own (b + k) k (get_or mine k 0) (mine_at k h) (omega arith)) in
        ap₂ {C = Bool} (λ x y. x && y) first second

    by_number : i < n → (t : Bool) → eqb (i + 1) own ≡ t → t || (all P b && all Q b) ≡ agrees_with n m own bytes (i + 1) (hears n m own bytes inbox i)
    unfolding agrees_with
    by_number l true q = sym (is_true (agrees_with n m own bytes (i + 1) (hears n m own bytes inbox i)) (with_itself n m own bytes inbox i (eqb-true (i + 1) own q)))
    by_number l false q =
        all_both P Q b ∙ all_same (both P Q) (agrees_in n m own bytes (i + 1) (hears n m own bytes inbox i)) b (each l (eqb-false (i + 1) own q))

    agreement_is : Dec (i < n) → agrees_across n b own words mine inbox i ≡ agreement_at n m own bytes inbox i
    unfolding agrees_across agreement_at
    agreement_is (yes l) = rw (lt-ltb i n l) (by_number l (eqb (i + 1) own) refl)
    agreement_is (no l) = rw (le-ltb i n (omega arith)) refl

  pub agreements_are : list_of (agrees_across n b own words mine inbox) 31 ≡ agreements n m own bytes inbox
  unfolding agreements
  agreements_are = list_of_same (agrees_across n b own words mine inbox) (agreement_at n m own bytes inbox) 31 (λ i _. agreement_is i (dec_lt i n))

-- REPORTS

-- the columns in a set and itself
pub both_self : (flags : List Bool) (n : ℕ) → count (both (agrees flags) (reported flags)) n ≡ count (agrees flags) n
unfolding both agrees reported
both_self flags n = count_same (both (agrees flags) (reported flags)) (agrees flags) n (λ j l u. twice (get_or flags (j - 1) false))
  where
    twice : (b : Bool) → b && b ≡ b
    twice true = refl
    twice false = refl

-- column i + 1's flag lies at place i
pub both_place : (some others : List Bool) (i : ℕ) → both (agrees some) (reported others) (i + 1) ≡ get_or some i false && get_or others i false
unfolding both agrees reported
both_place some others i = let e : i + 1 - 1 ≡ i = omega arith in rw e

-- a report is read as it came
pub times_reports : (received : ℕ → ℕ) (n : ℕ) → times (read_reports received) 1 n ≡ times received 1 n
unfolding times read_reports
times_reports received n = count_same (λ j. eqb (read_report (received j)) 1) (λ j. eqb (received j) 1) n (λ j l u. same_report (received j))

-- "n - t for 2t + 1: with n = 6 they are 5 and 3." The theorem alone does not tell the two apart; a wall of six columns does: all agree and
-- sent a first report, and columns 1 to k alone sent a second one
abbrev grade_of_six : ℕ → ℕ
grade_of_six k = grade 6 1 (λ j. true) (λ j. true) (λ j. cond (leb j k) 1 blank)

pub three_reports : grade_of_six 3 ≡ 2
unfolding grade second_quorum both read_reports read_report times count faults
three_reports = refl

pub two_reports : grade_of_six 2 ≡ 1
unfolding grade second_quorum both read_reports read_report times count faults
two_reports = refl

-- BETWEEN SOUND COLUMNS

-- what i, holding r, makes of the message of j, holding s: the records meet at both points
pub agrees_meets : (n m i j : ℕ) (r s : List ℕ) → agrees_with n m i r j (said (exchange n m j s i)) ≡ (meets n m r s j && meets n m r s i)
unfolding meets meet_in
agrees_meets n m i j r s = T_ext (agrees_with n m i r j (said (exchange n m j s i))) (meets n m r s j && meets n m r s i)
    (λ h. and_both (meets n m r s j) (meets n m r s i)
    (each_all (meet_in n r s j) (blocks n m) (λ k l. eq→eqb (point n r j k) (point n s j k) (sym (first_agrees n m i r j received h k l) ∙ sent_first k l)))
    (each_all (meet_in n r s i) (blocks n m) (λ k l. eq→eqb (point n r i k) (point n s i k) (sym (second_agrees n m i r j received h k l) ∙ sent_second k l))))
    (λ h.
    let p : T (meets n m r s j) = search conj in
    let q : T (meets n m r s i) = search conj in
    both_agree n m i r j received
    (λ k l. sent_first k l ∙ sym (eqb→eq (point n r j k) (point n s j k) (all_each (meet_in n r s j) (blocks n m) p k l)))
    (λ k l. sent_second k l ∙ sym (eqb→eq (point n r i k) (point n s i k) (all_each (meet_in n r s i) (blocks n m) q k l))))
  where
    received : ℕ → ℕ
    received = said (exchange n m j s i)

    sent_first : (k : ℕ) → k < blocks n m → read_point (said (exchange n m j s i) k) ≡ point n s j k
    sent_first k l = rw (first_value n m j s i k l) (point_is (point n s j k) (point_lt n s j k))

    sent_second : (k : ℕ) → k < blocks n m → read_point (said (exchange n m j s i) (blocks n m + k)) ≡ point n s i k
    sent_second k l = rw (second_value n m j s i k, said_values n m s i k l) (point_is (point n s i k) (point_lt n s i k))

-- a report that was sent is read
pub report_read : (b : Bool) → eqb (read_report (cond b 1 blank)) 1 ≡ b
unfolding read_report
report_read true = refl
report_read false = refl

-- THE RANGES OF WHAT A COLUMN KEEPS

-- a flag past n is not set
pub agreements_past : (n m own : ℕ) (bytes inbox : List ℕ) (i : ℕ) → n ≤ i → i < 31 → get_or (agreements n m own bytes inbox) i false ≡ false
unfolding agreements agreement_at
agreements_past n m own bytes inbox i h l = get_d_list_of (agreement_at n m own bytes inbox) 31 i false l ∙ rw (le-ltb i n h)

pub reports_past : (n : ℕ) (received : ℕ → ℕ) (i : ℕ) → n ≤ i → i < 31 → get_or (reports n received) i false ≡ false
unfolding reports report_at
reports_past n received i h l = get_d_list_of (report_at n received) 31 i false l ∙ rw (le-ltb i n h)
