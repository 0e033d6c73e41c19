-- Invariants of loops that count up, each with its laws: `-none` as the loop begins, `-more` for one turn, `-done` at its end.
-- Filled: an array is filled from the front. Rowed: an outgoing slice is filled row by row, each through the part that starts at its
-- place. Checked: a test is looked for that fails. Tested: all tests are made, and their answers put together. Counted: the columns that
-- pass a test are counted.
use Rattle.std.specs.Prelude.{◌≡◌, refl, Bool, true, false, not, ◌&&◌, List, [], ◌++◌, ℕ, ◌+◌, ◌-◌, ◌*◌, ◌≤◌, ◌<◌, length, take, drop, get_or, set, T}
use Rattle.std.proofs.Common.{ap, sym, ◌∙◌, append-nil, add-zero, arith, length-append, length-drop, length-set, drop_of_length-le, get_or-drop, take_all, length-take-le, get_or-append-add, ext_get_or}
use Rattle.std.proofs.lemmas.Bool.{not-true, not-false}
use Rattle.std.proofs.Math.ListN.{get_or-append}
use Rattle.std.proofs.Math.Decide.{dec_lt}
use Rattle.lists.specs.Lists.{bit, count, all, list_of, rows_of}
use Rattle.lists.specs.Entries.{all_none, all_more, all_next, all_fails, each_all, length_list_of, get_d_list_of, list_of_none, list_of_more, list_of_done}
use Rattle.lists.specs.Tests.{is_true}
use Rattle.lists.specs.Rows.{row_fits, rows_of_none, rows_of_more, rows_of_done}
use Rattle.lists.specs.Count.{count_more}

module _ {ℓ} {A : Type ℓ} where
  -- the first i of n entries are written
  pub record Filled (f : ℕ → A) (n : ℕ) (d₀ d : List A) (i : ℕ) : Type ℓ where
    pub within : i ≤ n
    pub size : n ≤ length d₀
    pub same : length d ≡ length d₀
    pub holds : d ≡ list_of f i ++ drop i d₀

  pub filled_none : (f : ℕ → A) (n : ℕ) (d : List A) → n ≤ length d → Filled f n d d 0
  filled_none f n d e = record { within = omega arith; size = e; same = refl; holds = list_of_none f d }

  pub filled_more : (f : ℕ → A) (n : ℕ) (d₀ d : List A) (i : ℕ) (v : A) → Filled f n d₀ d i → i < n → v ≡ f i → Filled f n d₀ (set d i v) (i + 1)
  filled_more f n d₀ d i v p h e =
      record {
        within = omega arith;
        size = p.size;
        same = length-set d i v ∙ p.same;
        holds = rw (p.holds, e) (list_of_more f i d₀ (omega (arith, p.size)));
      }

  -- what is not written yet is as it was
  pub filled_read : (f : ℕ → A) (n : ℕ) (d₀ d : List A) (i : ℕ) (z : A) → Filled f n d₀ d i → get_or d i z ≡ get_or d₀ i z
  filled_read f n d₀ d i z p =
      let e : get_or (list_of f i ++ drop i d₀) (length (list_of f i) + 0) z ≡ get_or (drop i d₀) 0 z = get_or-append-add (list_of f i) (drop i d₀) 0 z in
      let j : length (list_of f i) + 0 ≡ i = omega (arith, length_list_of f i) in
      rw p.holds ((rw j at e) ∙ get_or-drop i d₀ 0 z ∙ ap (λ (k : ℕ). get_or d₀ k z) (add-zero i))

  -- the first n are written, and the rest is as it was
  pub filled_part : (f : ℕ → A) (n : ℕ) (d₀ d : List A) (i : ℕ) → Filled f n d₀ d i → n ≤ i → d ≡ list_of f n ++ drop n d₀
  filled_part f n d₀ d i p h =
      let e : i ≡ n = omega (arith, p.within) in
      rw e at p.holds

  -- the first n are written, and there are no more
  pub filled_done : (f : ℕ → A) (n : ℕ) (d₀ d : List A) (i : ℕ) → Filled f n d₀ d i → n ≤ i → length d₀ ≤ n → d ≡ list_of f n
  filled_done f n d₀ d i p h l = filled_part f n d₀ d i p h ∙ list_of_done f n d₀ l

  -- the rest was right before
  pub filled_rest : (f : ℕ → A) (n : ℕ) (d₀ d : List A) (i : ℕ) (z : A) → Filled f n d₀ d i → length d₀ ≡ n → ((j : ℕ) → i ≤ j → j < n → get_or d₀ j z ≡ f j)
      → d ≡ list_of f n
  filled_rest f n d₀ d i z p l h =
      ext_get_or z d (list_of f n) (p.same ∙ l ∙ sym (length_list_of f n)) (λ j u.
      rw p.holds (at j (omega (arith, p.same, l)) (dec_lt j i)) ∙ sym (get_d_list_of f n j z (omega (arith, p.same, l))))
    where
      at : (j : ℕ) → j < n → Dec (j < i) → get_or (list_of f i ++ drop i d₀) j z ≡ f j
      at j u (yes b) = get_or-append (list_of f i) (drop i d₀) z j (omega (arith, length_list_of f i)) ∙ get_d_list_of f i j z b
      at j u (no b) =
          let e : get_or (list_of f i ++ drop i d₀) (length (list_of f i) + (j - i)) z ≡ get_or (drop i d₀) (j - i) z = get_or-append-add (list_of f i) (drop i d₀) (j - i) z in
          let q : length (list_of f i) + (j - i) ≡ j = omega (arith, length_list_of f i) in
          let r : i + (j - i) ≡ j = omega arith in
          (rw q at e) ∙ get_or-drop i d₀ (j - i) z ∙ rw r (h j (omega arith) u)

  -- the rows of columns 1 to j are written, of n with w values each
  pub record Rowed (f : ℕ → ℕ → A) (w n : ℕ) (d₀ d : List A) (j : ℕ) : Type ℓ where
    pub within : j ≤ n
    pub size : n * w ≡ length d₀
    pub same : length d ≡ length d₀
    pub holds : d ≡ rows_of f w j ++ drop (j * w) d₀

  pub rowed_none : (f : ℕ → ℕ → A) (w n : ℕ) (d : List A) → n * w ≡ length d → Rowed f w n d d 0
  rowed_none f w n d e = record { within = omega arith; size = e; same = refl; holds = rows_of_none f w d }

  -- the next row lies in the list
  pub rowed_fits : (f : ℕ → ℕ → A) (w n : ℕ) (d₀ d : List A) (j : ℕ) → Rowed f w n d₀ d j → j < n → j * w + w ≤ length d
  rowed_fits f w n d₀ d j p h = omega (arith, p.size, p.same, row_fits w j n h)

  rowed_written : (f : ℕ → ℕ → A) (w n : ℕ) (d₀ d e : List A) (j : ℕ) → Rowed f w n d₀ d j → j < n
      → e ≡ list_of (f (j + 1)) w ++ drop w (drop (j * w) d) → Rowed f w n d₀ (take (j * w) d ++ e) (j + 1)
  rowed_written f w n d₀ d e j p h q =
      let fit : j * w + w ≤ length d = rowed_fits f w n d₀ d j p h in
      let low : j * w ≤ length d = omega arith in
      record {
        within = omega arith;
        size = p.size;
        same = simp (q, length-append, length-take-le (j * w) d low, length_list_of, length-drop) (omega (arith, p.same));
        holds = rw (q, p.holds) (rows_of_more f w j d₀);
      }

  -- the part of the list from place a on, as the borrow checker says it of `&mut out[a..]`, and that nothing lies behind it
  pub all_of : (d : List A) (a : ℕ) → take (length d - a) (drop a d) ≡ drop a d
  all_of d a = take_all (length d - a) (drop a d) (omega (arith, length-drop a d))

  pub none_behind : (d : List A) (a : ℕ) → drop (length d - a) (drop a d) ≡ []
  none_behind d a = drop_of_length-le (drop a d) {i = length d - a} (omega (arith, length-drop a d))

  -- a part that starts at place a was lent to a call that wrote column j + 1's row to its front
  pub rowed_more : (f : ℕ → ℕ → A) (w n : ℕ) (d₀ d e : List A) (j a : ℕ) → Rowed f w n d₀ d j → j < n → a ≡ j * w
      → e ≡ list_of (f (j + 1)) w ++ drop w (take (length d - a) (drop a d)) → Rowed f w n d₀ (take a d ++ (e ++ drop (length d - a) (drop a d))) (j + 1)
  rowed_more f w n d₀ d e j a p h t q =
      rw (none_behind d a, append-nil, t) (rowed_written f w n d₀ d e j p h (rw (all_of d a, t) at q))

  -- the part that is lent has room for a row
  pub rowed_room : (f : ℕ → ℕ → A) (w n : ℕ) (d₀ d : List A) (j a : ℕ) → Rowed f w n d₀ d j → j < n → a ≡ j * w
      → w ≤ length (take (length d - a) (drop a d))
  rowed_room f w n d₀ d j a p h t = rw (all_of d a) (omega (arith, length-drop a d, rowed_fits f w n d₀ d j p h))

  pub rowed_done : (f : ℕ → ℕ → A) (w n : ℕ) (d₀ d : List A) (j : ℕ) → Rowed f w n d₀ d j → n ≤ j → d ≡ rows_of f w n
  rowed_done f w n d₀ d j p h =
      let e : j ≡ n = omega (arith, p.within) in
      rw e at p.holds ∙ rows_of_done f w n d₀ (omega (arith, p.size))

-- the first i of n numbers pass
pub record Checked (P : ℕ → Bool) (n i : ℕ) : Type 0 where
  pub within : i ≤ n
  pub holds : all P i ≡ true

pub checked_none : (P : ℕ → Bool) (n : ℕ) → Checked P n 0
checked_none P n = record { within = omega arith; holds = all_none P }

pub checked_more : (P : ℕ → Bool) (n i : ℕ) (b : Bool) → Checked P n i → i < n → b ≡ P i → not b ≡ false → Checked P n (i + 1)
checked_more P n i b p h e t = record { within = omega arith; holds = all_more P i p.holds (sym e ∙ not-false b t) }

pub checked_fails : (P : ℕ → Bool) (n i : ℕ) (b : Bool) → i < n → b ≡ P i → not b ≡ true → false ≡ all P n
checked_fails P n i b h e t = sym (all_fails P n i h (sym e ∙ not-true b t))

pub checked_done : (P : ℕ → Bool) (n i : ℕ) → Checked P n i → n ≤ i → true ≡ all P n
checked_done P n i p h =
    let e : i ≡ n = omega (arith, p.within) in
    sym (rw e at p.holds)

-- b is whether the first i of n numbers pass
pub record Tested (P : ℕ → Bool) (n : ℕ) (b : Bool) (i : ℕ) : Type 0 where
  pub within : i ≤ n
  pub holds : b ≡ all P i

-- the loop begins at the number a, below which all pass
pub tested_from : (P : ℕ → Bool) (n a : ℕ) → a ≤ n → ((i : ℕ) → i < a → T (P i)) → Tested P n true a
tested_from P n a h t = record { within = h; holds = sym (is_true (all P a) (each_all P a t)) }

pub tested_none : (P : ℕ → Bool) (n : ℕ) → Tested P n true 0
tested_none P n = tested_from P n 0 (omega arith) (λ i h. absurd (omega arith))

pub tested_more : (P : ℕ → Bool) (n i : ℕ) (b v : Bool) → Tested P n b i → i < n → v ≡ P i → Tested P n (b && v) (i + 1)
tested_more P n i b v p h e = record { within = omega arith; holds = rw (p.holds, e) (sym (all_next P i)) }

pub tested_done : (P : ℕ → Bool) (n i : ℕ) (b : Bool) → Tested P n b i → n ≤ i → b ≡ all P n
tested_done P n i b p h =
    let e : i ≡ n = omega (arith, p.within) in
    rw e at p.holds

-- k of the columns 1 to i, of n, pass
pub record Counted (P : ℕ → Bool) (n i k : ℕ) : Type 0 where
  pub within : i ≤ n
  pub holds : k ≡ count P i
  pub most : k ≤ i

pub bit_most : (b : Bool) → bit b ≤ 1
bit_most true = omega arith
bit_most false = omega arith

pub counted_none : (P : ℕ → Bool) (n : ℕ) → Counted P n 0 0
unfolding count
counted_none P n = record { within = omega arith; holds = refl; most = omega arith }

pub counted_more : (P : ℕ → Bool) (n i k v : ℕ) → Counted P n i k → i < n → v ≡ bit (P (i + 1)) → Counted P n (i + 1) (k + v)
counted_more P n i k v p h e =
    record {
      within = omega arith;
      holds = rw (count_more, e, p.holds) (omega arith);
      most = rw e (omega (arith, bit_most (P (i + 1)), p.most));
    }

pub counted_done : (P : ℕ → Bool) (n i k : ℕ) → Counted P n i k → n ≤ i → k ≡ count P n
counted_done P n i k p h =
    let e : i ≡ n = omega (arith, p.within) in
    rw e at p.holds
