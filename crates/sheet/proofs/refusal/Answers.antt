-- `refusal` meets its contract.
use Rattle.std.specs.Prelude.{◌≡◌, true, List, ℕ, eqb}
use Rattle.std.proofs.Common.{sym, ap₂, ◌∙◌, lt-ltb, le-ltb, eq-eqb, ne_eqb}
use Rattle.sizes.specs.Sizes.{refusal as refusal_of_sizes}
use Rattle.sizes.proofs.Refusals.{passed}
use Rattle.sheet.specs.Sheet.{columns, bytes, refusal}
use Rattle.sheet.proofs.refusal.Goals as goal

-- the sizes are judged by numbers that were read from the sheet
judged : {n m : ℕ} (number : ℕ) (sheet : List ℕ) → n ≡ columns sheet → m ≡ bytes sheet → refusal_of_sizes n m number ≡ refusal_of_sizes (columns sheet) (bytes sheet) number
judged number sheet e f = ap₂ {C = ℕ} (λ n m. refusal_of_sizes n m number) e f

fits : {n m : ℕ} (number : ℕ) (sheet : List ℕ) → n ≡ columns sheet → m ≡ bytes sheet → 0 ≡ refusal_of_sizes n m number → eqb (refusal_of_sizes (columns sheet) (bytes sheet) number) 0 ≡ true
fits number sheet e f h = eq-eqb _ _ (sym (h ∙ judged number sheet e f))

pub returns-then-sheet-lt2 : goal.returns-then-sheet-lt2
unfolding refusal
returns-then-sheet-lt2 c = simp (lt-ltb _ _ c.if-sheet-lt2.true)

pub returns-in_err-refusal : goal.returns-in_err-refusal
unfolding refusal
returns-in_err-refusal c =
    let p = passed _ c.from_residual.result c.from_residual.ensures.1 c.in_err-refusal.ensures in
    let e = judged c.args.number c.args.sheet.now c.columns-n.ensures c.bytes-m.ensures in
    simp (le-ltb _ _ c.if-sheet-lt2.false, ne_eqb _ _ (rw e at p.1), p.0 ∙ e)

pub returns-then-sheet-arrays : goal.returns-then-sheet-arrays
unfolding refusal
returns-then-sheet-arrays c = simp (le-ltb _ _ c.if-sheet-lt2.false, fits c.args.number c.args.sheet.now c.columns-n.ensures c.bytes-m.ensures c.in_ok-refusal.ensures, lt-ltb _ _ (rw (c.arrays.ensures, c.bytes-m.ensures, c.columns-n.ensures) at c.if-sheet-arrays.true))

pub returns-then-rows-n : goal.returns-then-rows-n
unfolding refusal
returns-then-rows-n c = simp (le-ltb _ _ c.if-sheet-lt2.false, fits c.args.number c.args.sheet.now c.columns-n.ensures c.bytes-m.ensures c.in_ok-refusal.ensures, le-ltb _ _ (rw (c.arrays.ensures, c.bytes-m.ensures, c.columns-n.ensures) at c.if-sheet-arrays.false), ne_eqb _ _ (rw c.columns-n.ensures at c.if-rows-n.true))

pub returns : goal.returns
unfolding refusal
returns c = simp (le-ltb _ _ c.if-sheet-lt2.false, fits c.args.number c.args.sheet.now c.columns-n.ensures c.bytes-m.ensures c.in_ok-refusal.ensures, le-ltb _ _ (rw (c.arrays.ensures, c.bytes-m.ensures, c.columns-n.ensures) at c.if-sheet-arrays.false), eq-eqb _ _ (rw c.columns-n.ensures at c.if-rows-n.false), c.refusal_of_marks.ensures)
