-- The laws of messages: legal values are read as they are, and a message is found again where it was written.
use Rattle.std.specs.Prelude.{◌≡◌, Bool, true, false, ◌⊎◌, List, ◌++◌, ℕ, ◌+◌, ◌-◌, ◌*◌, ◌≤◌, ◌<◌, T, eqb, ltb, leb, length, take, drop, set, slice_range}
use Rattle.std.proofs.Math.Path.{refl}
use Rattle.std.proofs.Common.{sym, ap, ◌∙◌, inl, inr, eqb→eq}
use Rattle.std.proofs.Math.Bool.{cond}
use Rattle.std.proofs.Math.Logic.{⊎_elim}
use native.Mathlib.Omega.{arith}
use Rattle.std.proofs.Math.Decide.{dec_lt}
use borrow.Author.Tests.{ltb-true, lt-ltb, le-ltb, le-leb, lt-leb, eq-eqb, ne_eqb}
use Rattle.std.proofs.Math.ListN.{get_or, get_or-eq_default}
use Rattle.lists.specs.Lists.{list_of, in_row}
use Rattle.lists.specs.Entries.{length_list_of, get_d_list_of, list_of_same, list_of_set}
use Rattle.lists.specs.Tests.{passes}
use Rattle.lists.specs.Rows.{rows_of_same}
use Rattle.field.specs.Field.{blank}
use Rattle.messages.specs.Messages.{read_point, read_report, read_bit, said, from, to_all, laid, written, put, refusal, unless_refused, heard, heard_from, heard_of_all}

-- WHAT A VALUE SAYS: a legal value is itself

pub point_is : (v : ℕ) → v < 257 → read_point v ≡ v
unfolding read_point
point_is v h = simp (lt-ltb v 257 h)

pub bit_is : (v : ℕ) → v < 2 → read_bit v ≡ v
unfolding read_bit
bit_is v h = simp (lt-ltb v 2 h)

-- and what is read as a bit is one, or blank
pub bit_or_blank : (v : ℕ) → (read_bit v < 2) ⊎ (read_bit v ≡ blank)
unfolding read_bit
bit_or_blank v = go (ltb v 2) refl
  where
    go : (b : Bool) → ltb v 2 ≡ b → (cond b v blank < 2) ⊎ (cond b v blank ≡ blank)
    go true e = inl (ltb-true v 2 e)
    go false e = inr refl

-- whether a legal value was received can be asked of the value as it came
pub same_report : (v : ℕ) → eqb (read_report v) 1 ≡ eqb v 1
unfolding read_report
same_report v = go (eqb v 1) refl
  where
    go : (b : Bool) → eqb v 1 ≡ b → eqb (cond b v blank) 1 ≡ b
    go true e = e
    go false e = ne_eqb blank 1 (omega arith)

pub same_bit : (v b : ℕ) → b < 2 → eqb (read_bit v) b ≡ eqb v b
unfolding read_bit
same_bit v b h = go (dec_lt v 2)
  where
    go : Dec (v < 2) → eqb (cond (ltb v 2) v blank) b ≡ eqb v b
    go (yes l) = simp (lt-ltb v 2 l)
    go (no l) = simp (le-ltb v 2 (omega arith), ne_eqb v b (omega arith), ne_eqb blank b (omega arith))

pub same_point : (v p : ℕ) → p < 257 → eqb (read_point v) p ≡ eqb v p
unfolding read_point
same_point v p h = go (dec_lt v 257)
  where
    go : Dec (v < 257) → eqb (cond (ltb v 257) v blank) p ≡ eqb v p
    go (yes l) = simp (lt-ltb v 257 l)
    go (no l) = simp (le-ltb v 257 (omega arith), ne_eqb v p (omega arith), ne_eqb blank p (omega arith))

-- HOW MESSAGES LIE

-- the front of a list, as `get(..n)` gives it
pub front : {A : Type 0} (l : List A) (n : ℕ) → slice_range l 0 n ≡ take n l
front l n = let e : n - 0 ≡ n = omega arith in rw e refl

-- column i + 1's value lies at place i
pub from_place : (values : List ℕ) (i : ℕ) → from values (i + 1) ≡ said values i
unfolding from said
from_place values i = ap (λ (q : ℕ). get_or values q blank) (omega arith)

-- a message is as it was in places enough
pub said_laid : (w : ℕ) (message : List ℕ) (k : ℕ) → length message ≤ w → said (laid w message) k ≡ said message k
unfolding said laid
said_laid w message k h = go (dec_lt k w)
  where
    go : Dec (k < w) → get_or (list_of (said message) w) k blank ≡ get_or message k blank
    go (yes l) = get_d_list_of (said message) w k blank l
    go (no l) =
        get_or-eq_default (list_of (said message) w) blank {n = k} (omega (arith, length_list_of (said message) w))
        ∙ sym (get_or-eq_default message blank {n = k} (omega arith))

pub written_fits : (w : ℕ) (message part : List ℕ) → w ≤ length part → written w message part ≡ list_of (said message) w ++ drop w part
unfolding written laid
written_fits w message part h = simp (le-leb w (length part) h)

pub not_written : (w : ℕ) (message part : List ℕ) → length part < w → written w message part ≡ part
unfolding written
not_written w message part h = simp (lt-leb w (length part) h)

pub put_fits : (bytes part : List ℕ) → length bytes ≤ length part → put bytes part ≡ bytes ++ drop (length bytes) part
unfolding put
put_fits bytes part h = simp (le-leb (length bytes) (length part) h)

pub not_put : (bytes part : List ℕ) → length part < length bytes → put bytes part ≡ part
unfolding put
not_put bytes part h = simp (lt-leb (length bytes) (length part) h)

pub to_all_same : (n w : ℕ) (message other : List ℕ) → ((k : ℕ) → said message k ≡ said other k) → to_all n w message ≡ to_all n w other
unfolding to_all
to_all_same n w message other h = rows_of_same (λ j. said message) (λ j. said other) w n (λ j k _ _ _. h k)

-- REFUSALS

module _ (why n w len : ℕ) where
  pub refused_before : (why ≡ 0 → ⊥) → refusal why n w len ≡ why
  unfolding refusal
  refused_before h = simp (ne_eqb why 0 h)

  -- what is refused behind a call that was not
  pub refused_behind : 0 ≡ why → refusal why n w len ≡ refusal 0 n w len
  refused_behind e = ap (λ (q : ℕ). refusal q n w len) (sym e)

  pub refused_length : why ≡ 0 → (len ≡ n * w → ⊥) → refusal why n w len ≡ 4
  unfolding refusal
  refused_length e h = simp (eq-eqb why 0 e, ne_eqb len (n * w) h)

  pub not_refused : why ≡ 0 → len ≡ n * w → refusal why n w len ≡ 0
  unfolding refusal
  not_refused e h = simp (eq-eqb why 0 e, eq-eqb len (n * w) h)

-- a part that has room is written to
pub has_room : (w len : ℕ) → w ≤ len → ◌≡◌ {A = ℕ} (cond (leb w len) 0 4) 0
has_room w len h = simp (le-leb w len h)

-- a call that is not refused: the slice is as long as it has to be
pub accepted : (why n w len : ℕ) → refusal why n w len ≡ 0 → (why ≡ 0) × (len ≡ n * w)
unfolding refusal
accepted why n w len = go (eqb why 0) (eqb len (n * w)) refl refl
  where
    go : (a b : Bool) → eqb why 0 ≡ a → eqb len (n * w) ≡ b → ◌≡◌ {A = ℕ} (cond a (cond b 0 4) why) 0 → (why ≡ 0) × (len ≡ n * w)
    go true true ea eb h = (eqb→eq why 0 (passes _ ea), eqb→eq len (n * w) (passes _ eb))
    go true false ea eb h = absurd (omega arith)
    go false b ea eb h = let q : T (eqb why 0) = rw h tt in absurd (rw ea at q)

pub if_refused : (why : ℕ) (done before : List ℕ) → (why ≡ 0 → ⊥) → unless_refused why done before ≡ before
unfolding unless_refused
if_refused why done before h = simp (ne_eqb why 0 h)

pub if_done : (why : ℕ) (done before : List ℕ) → why ≡ 0 → unless_refused why done before ≡ done
unfolding unless_refused
if_done why done before h = simp (eq-eqb why 0 h)

-- WHAT A COLUMN HEARS

module _ (own : ℕ) (mine : List ℕ) (w : ℕ) (inbox : List ℕ) where
  pub heard_own : (j k : ℕ) → j ≡ own → heard own mine w inbox j k ≡ said mine k
  unfolding heard
  heard_own j k e = simp (eq-eqb j own e)

  pub heard_other : (j k : ℕ) → (j ≡ own → ⊥) → heard own mine w inbox j k ≡ in_row w inbox j k blank
  unfolding heard
  heard_other j k h = simp (ne_eqb j own h)

  -- what the column would send itself, told otherwise
  pub heard_same : (other : List ℕ) (j k : ℕ) → said mine k ≡ said other k → heard own mine w inbox j k ≡ heard own other w inbox j k
  unfolding heard
  heard_same other j k e = rw e

  -- column j's of the values from all columns
  pub from_heard : (n k j : ℕ) → 1 ≤ j → j ≤ n → n ≤ 31 → from (heard_of_all n own mine w inbox k) j ≡ heard own mine w inbox j k
  unfolding from heard_of_all heard_from
  from_heard n k j l u h =
      let e : j - 1 + 1 ≡ j = omega arith in
      get_d_list_of (heard_from n own mine w inbox k) 31 (j - 1) blank (omega arith) ∙ simp (lt-ltb (j - 1) n (omega arith), e)

-- ONE VALUE FROM EACH, where the slice has no more

module _ (n own : ℕ) (mine inbox : List ℕ) (size : length inbox ≡ n) where
  -- what lies at place i, where this is not the own place
  lies : (i : ℕ) → (i < n → i + 1 ≡ own → ⊥) → said inbox i ≡ heard_from n own mine 1 inbox 0 i
  unfolding said heard_from
  lies i h = go (dec_lt i n)
    where
      go : Dec (i < n) → get_or inbox i blank ≡ cond (ltb i n) (heard own mine 1 inbox (i + 1) 0) blank
      go (yes l) =
          let e : (i + 1 - 1) * 1 + 0 ≡ i = omega arith in
          rw (lt-ltb i n l, heard_other own mine 1 inbox (i + 1) 0 (h l), e) refl
      go (no l) = rw (le-ltb i n (omega arith)) (get_or-eq_default inbox blank {n = i} (omega arith))

  pub one_of_others : (own < 1) ⊎ (n < own) → laid 31 inbox ≡ heard_of_all n own mine 1 inbox 0
  unfolding laid heard_of_all
  one_of_others o = list_of_same (said inbox) (heard_from n own mine 1 inbox 0) 31 (λ i _. lies i (λ l e. ⊎_elim (λ (b : own < 1). omega arith) (λ (b : n < own). omega arith) o))

  pub one_of_own : (a v : ℕ) → a + 1 ≡ own → own ≤ n → n ≤ 31 → v ≡ said mine 0 → set (laid 31 inbox) a v ≡ heard_of_all n own mine 1 inbox 0
  unfolding laid heard_of_all heard_from
  one_of_own a v e u h q =
      list_of_set (said inbox) (heard_from n own mine 1 inbox 0) 31 a v (omega arith)
      (rw (lt-ltb a n (omega arith), heard_own own mine 1 inbox (a + 1) 0 e) q) (λ i _ o. lies i (λ l s. o (omega arith)))
