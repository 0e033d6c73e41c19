-- The laws of a sheet: where its parts lie, and what is known of one that is accepted (`Accepted`).
use Rattle.std.specs.Prelude.{◌≡◌, refl, Bool, true, false, not, cond, List, ℕ, ◌+◌, ◌*◌, ◌≤◌, ◌<◌, T, eqb, ltb, length, drop}
use Rattle.std.proofs.Common.{ap, mul-le-mul, arith, ltb-true, ltb-false, leb-true, eqb→eq}
use Rattle.std.proofs.Math.ListN.{length-drop}
use Rattle.std.proofs.Math.Seq.{length-take-le}
use Rattle.lists.specs.Tests.{is_true, passes}
use Rattle.lists.specs.Entries.{all_each}
use Rattle.lists.specs.Rows.{row_fits}
use Rattle.sizes.specs.Sizes.{faults, refusal as refusal_of_sizes}
use Rattle.sizes.specs.Laws.{InRange}
use Rattle.sizes.proofs.Laws.{accepted as accepted_sizes}
use Rattle.sheet.specs.Sheet.{columns, bytes, mark, unsound_to, record_place, record_of, arrays, whole, mark_fits, in_order, refusal_of_marks, refusal}

-- WHERE THINGS STAND

-- of sizes that are bytes
pub arrays_le : (n m : ℕ) → n ≤ 255 → m ≤ 255 → arrays n m ≤ 65282
unfolding arrays
arrays_le n m h g = omega (arith, mul-le-mul {n₁ = n} {m₁ = m} {n₂ = 255} {m₂ = 255} h g)

-- of the column that i others stand before
pub record_place_lem : (n m i : ℕ) → record_place n m (i + 1) ≡ 2 + n + i * m
unfolding record_place
record_place_lem n m i = ap (λ (j : ℕ). 2 + n + j * m) (omega arith)

-- AN ACCEPTED SHEET

-- its sizes, and both arrays are there
pub record Arrays (sheet : List ℕ) : Type 0 where
  pub range : InRange (columns sheet) (bytes sheet)
  pub long : arrays (columns sheet) (bytes sheet) ≤ length sheet

pub record Marked (line : ℕ) (sheet : List ℕ) : Type 0 where
  pub marks : (i : ℕ) → i < columns sheet → mark sheet (i + 1) < 2
  pub few : unsound_to sheet (columns sheet) ≤ faults (columns sheet)
  pub full : length sheet ≡ whole line (columns sheet) (bytes sheet) (unsound_to sheet (columns sheet))

in_order_lem : (fit few full : Bool) → in_order fit few full ≡ 0 → (fit ≡ true) × (few ≡ true) × (full ≡ true)
unfolding in_order
in_order_lem true true true h = (refl, refl, refl)
in_order_lem true true false h = absurd (omega arith)
in_order_lem true false full h = absurd (omega arith)
in_order_lem false few full h = absurd (omega arith)

marked : (line : ℕ) (sheet : List ℕ) → refusal_of_marks line sheet ≡ 0 → Marked line sheet
unfolding refusal_of_marks mark_fits
marked line sheet h =
    let (fit, few, full) = in_order_lem _ _ _ h in
    record {
      marks = λ i l. ltb-true _ _ (is_true _ (all_each (mark_fits sheet) (columns sheet) (passes _ fit) i l));
      few = leb-true _ _ few;
      full = eqb→eq _ _ (passes _ full);
    }

pub record Accepted (line : ℕ) (sheet : List ℕ) (rows : ℕ) : Type 0 where
  pub arrays_there : Arrays sheet
  pub rows_are : rows ≡ columns sheet
  pub well_marked : Marked line sheet

-- and the number beside it is that of a column
pub accepted : (number line : ℕ) (sheet : List ℕ) (rows : ℕ) → refusal number line sheet rows ≡ 0
    → Accepted line sheet rows × (refusal_of_sizes (columns sheet) (bytes sheet) number ≡ 0)
unfolding refusal
accepted number line sheet rows =
    go (ltb (length sheet) 2) (eqb (refusal_of_sizes (columns sheet) (bytes sheet) number) 0) (ltb (length sheet) (arrays (columns sheet) (bytes sheet))) (eqb rows (columns sheet)) refl refl refl refl
  where
    go : (a b c d : Bool) → ltb (length sheet) 2 ≡ a → eqb (refusal_of_sizes (columns sheet) (bytes sheet) number) 0 ≡ b → ltb (length sheet) (arrays (columns sheet) (bytes sheet)) ≡ c → eqb rows (columns sheet) ≡ d
        → ◌≡◌ {A = ℕ} (cond a 4 (cond (not b) (refusal_of_sizes (columns sheet) (bytes sheet) number) (cond c 4 (cond (not d) 4 (refusal_of_marks line sheet))))) 0
        → Accepted line sheet rows × (refusal_of_sizes (columns sheet) (bytes sheet) number ≡ 0)
    go true b c d ea eb ec ed h = absurd (omega arith)
    go false false c d ea eb ec ed h = let q : T (eqb (refusal_of_sizes (columns sheet) (bytes sheet) number) 0) = rw h tt in absurd (rw eb at q)
    go false true true d ea eb ec ed h = absurd (omega arith)
    go false true false false ea eb ec ed h = absurd (omega arith)
    go false true false true ea eb ec ed h =
        let number_fits = eqb→eq _ _ (passes _ eb) in (
          record {
            arrays_there = record { range = (accepted_sizes _ _ _ number_fits).range; long = ltb-false _ _ ec };
            rows_are = eqb→eq _ _ (passes _ ed);
            well_marked = marked line sheet h;
          },
          number_fits,
        )

-- its records have m bytes
module _ (sheet : List ℕ) (there : Arrays sheet) (i : ℕ) (l : i < columns sheet) where
  pub record_fits : 2 + columns sheet + i * bytes sheet + bytes sheet ≤ length sheet
  unfolding arrays
  record_fits = omega (arith, there.long, row_fits (bytes sheet) i (columns sheet) l)

  pub record_length : length (record_of sheet (i + 1)) ≡ bytes sheet
  unfolding record_of
  record_length =
      length-take-le (bytes sheet) (drop (record_place (columns sheet) (bytes sheet) (i + 1)) sheet)
      (omega (arith, length-drop (record_place (columns sheet) (bytes sheet) (i + 1)) sheet, record_place_lem (columns sheet) (bytes sheet) i, record_fits))
