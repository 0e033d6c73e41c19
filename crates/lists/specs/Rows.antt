-- Laws of rows: column j's row is the part of w values that starts at place (j - 1) * w.
use Rattle.std.specs.Prelude.{◌≡◌, length, take, drop}
use Rattle.std.proofs.Math.Path.{refl, ap, ap₂, sym}
use Rattle.std.proofs.Common.{◌∙◌, eq-or-lt_of_le, mul-le-mul_right, le_of_suc-le-suc, arith, length-append, drop_of_length-le}
use mathlib.Core.List.{List, [], ◌∷◌, ◌++◌, append_assoc, append-nil}
use Rattle.std.proofs.Math.Logic.{⊎_elim}
use Prim.Native.Nat.{ℕ, zero, suc, ◌+◌, ◌-◌, ◌*◌, ◌≤◌, ◌<◌}
use Rattle.std.proofs.Math.Nat.{suc-mul, zero-mul}
use Rattle.std.proofs.Math.Numerals.{add-one}
use Rattle.std.proofs.Math.ListN.{get_or, get_or-append}
use Rattle.std.proofs.Math.Seq.{take_at, drop_at, drop-drop, get_or-append-add}
use Rattle.lists.specs.Lists.{list_of, rows_of, in_row}
use Rattle.lists.specs.Entries.{length_list_of, get_d_list_of, list_of_same}

-- row j ends before row n + 1 begins
pub row_fits : (w j n : ℕ) → j < n → j * w + w ≤ n * w
row_fits w j n h =
    let m : suc j * w ≤ n * w = mul-le-mul_right w h in
    omega (arith, suc-mul j w)

module _ {ℓ} {A : Type ℓ} where
  pub length_rows_of : (f : ℕ → ℕ → A) (w n : ℕ) → length (rows_of f w n) ≡ n * w
  unfolding rows_of
  length_rows_of f w zero = sym (zero-mul w)
  length_rows_of f w (suc n) = simp (length-append, length_list_of, length_rows_of f w n, suc-mul)

  -- rows that agree at each place
  pub rows_of_same : (f g : ℕ → ℕ → A) (w n : ℕ) → ((j k : ℕ) → 1 ≤ j → j ≤ n → k < w → f j k ≡ g j k) → rows_of f w n ≡ rows_of g w n
  unfolding rows_of
  rows_of_same f g w zero h = refl
  rows_of_same f g w (suc n) h =
      ap₂ {C = List A} (λ rows row. rows ++ row) (rows_of_same f g w n (λ j k l u. h j k l (omega arith))) (list_of_same (f (suc n)) (g (suc n)) w (λ k. h (suc n) k (omega arith) (omega arith)))

  -- rows of one value
  pub rows_of_one : (f : ℕ → ℕ → A) (n : ℕ) → rows_of f 1 n ≡ list_of (λ i. f (suc i) 0) n
  unfolding rows_of list_of
  rows_of_one f zero = refl
  rows_of_one f (suc n) = ap (λ (l : List A). l ++ (f (suc n) 0 ∷ [])) (rows_of_one f n)

  at_place : (f : ℕ → ℕ → A) (w n j k : ℕ) (z : A) → j < n → k < w → get_or (rows_of f w n) (j * w + k) z ≡ f (suc j) k
  unfolding rows_of
  at_place f w zero j k z h l = absurd (omega arith)
  at_place f w (suc n) j k z h l =
      ⊎_elim
      (λ (e : j ≡ n).
      let s : get_or (rows_of f w n ++ list_of (f (suc n)) w) (length (rows_of f w n) + k) z ≡ get_or (list_of (f (suc n)) w) k z =
      get_or-append-add (rows_of f w n) (list_of (f (suc n)) w) k z in
      rw e (rw length_rows_of at s ∙ get_d_list_of (f (suc n)) w k z l))
      (λ (b : j < n).
      get_or-append (rows_of f w n) (list_of (f (suc n)) w) z (j * w + k) (omega (arith, length_rows_of f w n, row_fits w j n b)) ∙ at_place f w n j k z b l)
      (eq-or-lt_of_le (le_of_suc-le-suc h))

  -- what stands in column j's row is what was written for column j
  pub in_row_rows_of : (f : ℕ → ℕ → A) (w n j k : ℕ) (z : A) → 1 ≤ j → j ≤ n → k < w → in_row w (rows_of f w n) j k z ≡ f j k
  in_row_rows_of f w n j k z l u h =
      let e : suc (j - 1) ≡ j = omega arith in
      at_place f w n (j - 1) k z (omega arith) h ∙ ap (λ (i : ℕ). f i k) e

  pub rows_of_none : (f : ℕ → ℕ → A) (w : ℕ) (d : List A) → d ≡ rows_of f w 0 ++ drop (0 * w) d
  unfolding rows_of
  rows_of_none f w d = rw zero-mul refl

  -- one row more of a loop that fills a list row by row, each through the part that starts at its place
  pub rows_of_more : (f : ℕ → ℕ → A) (w j : ℕ) (d : List A)
      → take (j * w) (rows_of f w j ++ drop (j * w) d) ++ (list_of (f (j + 1)) w ++ drop w (drop (j * w) (rows_of f w j ++ drop (j * w) d)))
      ≡ rows_of f w (j + 1) ++ drop ((j + 1) * w) d
  unfolding rows_of
  rows_of_more f w j d =
      rw (
        take_at (rows_of f w j) (drop (j * w) d) (j * w) (length_rows_of f w j),
        drop_at (rows_of f w j) (drop (j * w) d) (j * w) (length_rows_of f w j),
        drop-drop,
        add-one,
        append_assoc,
        suc-mul,
      ) refl

  pub rows_of_done : (f : ℕ → ℕ → A) (w n : ℕ) (d : List A) → length d ≤ n * w → rows_of f w n ++ drop (n * w) d ≡ rows_of f w n
  rows_of_done f w n d h = rw (drop_of_length-le d h) (append-nil (rows_of f w n))
