-- The laws of codewords: the values of a block with the sizes at hand, rows of codewords, and what they have across.
use Rattle.std.specs.Prelude.{◌≡◌, Bool, true, false, cond, ◌&&◌, List, [], ◌∷◌, ◌++◌, ℕ, suc, ◌+◌, ◌-◌, ◌*◌, ◌≤◌, ◌<◌, T, eqb, ltb, leb, length, drop, get_or, replicate}
use Rattle.std.proofs.Math.Path.{refl}
use Rattle.std.proofs.Common.{sym, ap, ◌∙◌, arith, eqb→eq, leb→le}
use Rattle.std.proofs.Math.Decide.{dec_lt}
use borrow.Author.Tests.{lt-ltb, le-ltb, le-leb, lt-leb, ne_eqb}
use Rattle.lists.specs.Lists.{list_of, rows_of}
use Rattle.lists.specs.Tests.{passes}
use Rattle.lists.specs.Entries.{get_d_list_of, list_of_same}
use Rattle.lists.specs.Rows.{length_rows_of, rows_of_same, in_row_rows_of}
use Rattle.field.specs.Field.{blank}
use Rattle.block.specs.Block.{part, value, word_at}
use Rattle.sizes.specs.Sizes.{degree, blocks, refusal as refusal_of_sizes}
use Rattle.sizes.proofs.Laws.{first_column}
use Rattle.messages.specs.Messages.{said, written, refusal, unless_refused}
use Rattle.messages.proofs.Laws.{written_fits, if_done}
use Rattle.codeword.specs.Codeword.{point, values, codeword_at, codewords, codewords_refusal, across, across_refusal, written_across}
use Rattle.codeword.specs.Apart.{said_values, said_past}

-- A VALUE, with the sizes at hand

unfoldable pub value_in : ℕ → ℕ → List ℕ → ℕ → ℕ → ℕ
value_in b size bytes x k = cond (ltb k b) (value (part bytes (k * size) size) x) blank

pub value_in_lem : (n m b size : ℕ) (bytes : List ℕ) (x k : ℕ) → b ≡ blocks n m → size ≡ degree n + 1 → value_in b size bytes x k ≡ said (values n m bytes x) k
unfolding value_in point
value_in_lem n m b size bytes x k e f = rw (e, f) (go (dec_lt k (blocks n m)))
  where
    go : Dec (k < blocks n m) → value_in (blocks n m) (degree n + 1) bytes x k ≡ said (values n m bytes x) k
    go (yes l) = rw (lt-ltb k (blocks n m) l) (sym (said_values n m bytes x k l))
    go (no l) = rw (le-ltb k (blocks n m) (omega arith)) (sym (said_past n m bytes x k (omega arith)))

-- four bytes, one by one
pub four_bytes : (bytes : List ℕ) (from a b c d : ℕ) → a ≡ get_or bytes from 0 → b ≡ get_or bytes (from + 1) 0 → c ≡ get_or bytes (from + 2) 0
    → d ≡ get_or bytes (from + 3) 0 → ◌≡◌ {A = List ℕ} (a ∷ b ∷ c ∷ d ∷ []) (part bytes from 4)
unfolding part
four_bytes bytes from a b c d ea eb ec ed =
    let one : from + 1 ≡ suc from = omega arith in
    let two : from + 2 ≡ suc (suc from) = omega arith in
    let three : from + 3 ≡ suc (suc (suc from)) = omega arith in
    rw (ea, eb, ec, ed, one, two, three) refl

-- an array of one value
copies : (v : ℕ) → replicate 32 v ≡ list_of (λ _. v) 32
unfolding list_of
copies v = refl

-- THE CODEWORDS OF A RECORD, with the sizes at hand

unfoldable pub row_at : ℕ → ℕ → List ℕ → ℕ → ℕ → ℕ
row_at b size bytes row i = value_in b size bytes (i + 1) (row - 1)

pub row_none : (b size : ℕ) (bytes : List ℕ) (k : ℕ) → b ≤ k → replicate 32 blank ≡ list_of (row_at b size bytes (k + 1)) 32
unfolding row_at value_in
row_none b size bytes k h =
    let e : k + 1 - 1 ≡ k = omega arith in
    copies blank ∙ list_of_same (λ _. blank) (row_at b size bytes (k + 1)) 32 (λ i _. rw (e, le-ltb k b h))

pub row_word : (b size : ℕ) (bytes : List ℕ) (k : ℕ) → k < b → list_of (word_at (part bytes (k * size) size)) 32 ≡ list_of (row_at b size bytes (k + 1)) 32
unfolding row_at value_in word_at
row_word b size bytes k h =
    let e : k + 1 - 1 ≡ k = omega arith in
    list_of_same (word_at (part bytes (k * size) size)) (row_at b size bytes (k + 1)) 32 (λ i _. rw (e, lt-ltb k b h))

-- a row that was made as a list, written
pub row_written : (f : ℕ → ℕ) (word part : List ℕ) → 32 ≤ length part → word ≡ list_of f 32 → written 32 word part ≡ list_of f 32 ++ drop 32 part
unfolding said
row_written f word part h e =
    written_fits 32 word part h ∙ ap (λ (front : List ℕ). front ++ drop 32 part) same
  where
    same : list_of (said word) 32 ≡ list_of f 32
    same = rw e (list_of_same (said (list_of f 32)) f 32 (λ k l. get_d_list_of f 32 k blank l))

pub rows_are : (n m b size : ℕ) (bytes : List ℕ) → b ≡ blocks n m → size ≡ degree n + 1 → rows_of (row_at b size bytes) 32 32 ≡ codewords n m bytes
unfolding codewords codeword_at row_at
rows_are n m b size bytes e f =
    rows_of_same (row_at b size bytes) (codeword_at n m bytes) 32 32 (λ row i _ _ _. value_in_lem n m b size bytes (i + 1) (row - 1) e f)

-- where the sizes and the length fit, nothing is refused
pub codewords_accepted : (n m number : ℕ) (before : List ℕ) → refusal_of_sizes n m number ≡ 0 → length before ≡ 1024
    → codewords_refusal n m (length before) ≡ 0
unfolding refusal
codewords_accepted n m number before r h = rw (first_column n m number r, h) refl

-- and they were written
pub codewords_in : (n m number : ℕ) (bytes before : List ℕ) → refusal_of_sizes n m number ≡ 0 → length before ≡ 1024
    → unless_refused (codewords_refusal n m (length before)) (codewords n m bytes) before ≡ codewords n m bytes
codewords_in n m number bytes before r h =
    if_done (codewords_refusal n m (length before)) (codewords n m bytes) before (codewords_accepted n m number before r h)

-- ACROSS THEM

-- what the codewords have at a place is the message of the values at its point
pub across_is : (n m : ℕ) (bytes : List ℕ) (i k : ℕ) → i < 32 → k < 32 → across (codewords n m bytes) i k ≡ said (values n m bytes (i + 1)) k
unfolding across codewords codeword_at
across_is n m bytes i k h l =
    let e : 32 * k + i ≡ (k + 1 - 1) * 32 + i = omega arith in
    let f : k + 1 - 1 ≡ k = omega arith in
    ap (λ (p : ℕ). get_or (codewords n m bytes) p 0) e
    ∙ in_row_rows_of (codeword_at n m bytes) 32 32 (k + 1) i 0 (omega arith) (omega arith) h
    ∙ ap (λ (q : ℕ). said (values n m bytes (i + 1)) q) f

pub length_codewords : (n m : ℕ) (bytes : List ℕ) → length (codewords n m bytes) ≡ 1024
unfolding codewords
length_codewords n m bytes = length_rows_of (codeword_at n m bytes) 32 32

-- what was written is as long as what was there
pub length_written : (n m number : ℕ) (bytes before words : List ℕ) → refusal_of_sizes n m number ≡ 0 → length before ≡ 1024
    → words ≡ unless_refused (codewords_refusal n m (length before)) (codewords n m bytes) before → length words ≡ 1024
length_written n m number bytes before words r h e =
    ap (λ (l : List ℕ). length l) (e ∙ codewords_in n m number bytes before r h) ∙ length_codewords n m bytes

module _ (n b i words room : ℕ) where
  pub across_refused : (refusal_of_sizes n 1 i ≡ 0 → ⊥) → refusal_of_sizes n 1 i ≡ across_refusal n b i words room
  unfolding across_refusal
  across_refused h = simp (ne_eqb (refusal_of_sizes n 1 i) 0 h)

  pub across_few : refusal_of_sizes n 1 i ≡ 0 → words < 32 * b → 4 ≡ across_refusal n b i words room
  unfolding across_refusal
  across_few r h = simp (r, lt-leb (32 * b) words h)

  pub across_no_room : refusal_of_sizes n 1 i ≡ 0 → 32 * b ≤ words → room < b → 4 ≡ across_refusal n b i words room
  unfolding across_refusal
  across_no_room r h l = simp (r, le-leb (32 * b) words h, lt-leb b room l)

  pub across_accepted : refusal_of_sizes n 1 i ≡ 0 → 32 * b ≤ words → b ≤ room → across_refusal n b i words room ≡ 0
  unfolding across_refusal
  across_accepted r h l = simp (r, le-leb (32 * b) words h, le-leb b room l)

-- where nothing is refused, all of it fits
pub across_fits : (n b i words room : ℕ) → across_refusal n b i words room ≡ 0 → (refusal_of_sizes n 1 i ≡ 0) × (32 * b ≤ words) × (b ≤ room)
unfolding across_refusal
across_fits n b i words room = go (eqb (refusal_of_sizes n 1 i) 0) (leb (32 * b) words) (leb b room) refl refl refl
  where
    go : (p q r : Bool) → eqb (refusal_of_sizes n 1 i) 0 ≡ p → leb (32 * b) words ≡ q → leb b room ≡ r
        → ◌≡◌ {A = ℕ} (cond p (cond (q && r) 0 4) (refusal_of_sizes n 1 i)) 0 → (refusal_of_sizes n 1 i ≡ 0) × (32 * b ≤ words) × (b ≤ room)
    go true true true ep eq er h = (eqb→eq (refusal_of_sizes n 1 i) 0 (passes _ ep), leb→le (32 * b) words (passes _ eq), leb→le b room (passes _ er))
    go true true false ep eq er h = absurd (omega arith)
    go true false r ep eq er h = absurd (omega arith)
    go false q r ep eq er h = let t : T (eqb (refusal_of_sizes n 1 i) 0) = rw h tt in absurd (rw ep at t)

pub across_written : (n b : ℕ) (words : List ℕ) (i : ℕ) (part : List ℕ) → refusal_of_sizes n 1 i ≡ 0 → b ≤ length part → 32 * b ≤ length words
    → written_across n b words i part ≡ list_of (across words (i - 1)) b ++ drop b part
unfolding written_across
across_written n b words i part r h u =
    if_done (across_refusal n b i (length words) (length part)) (list_of (across words (i - 1)) b ++ drop b part) part
    (across_accepted n b i (length words) (length part) r u h)
