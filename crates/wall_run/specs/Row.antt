-- The entries of a run on their way to the lent row.
use Rattle.std.specs.Prelude.{Ok, ◌≡◌, refl, Bool, true, false, List, [], ℕ, ◌≤◌, eqb, length, get_or, drop, replicate}
use Rattle.std.proofs.Math.Path.{sym}
use Rattle.std.proofs.Common.{subst, ap, ap₂, ◌∙◌, eq-eqb, ne_eqb, eqb-true}
use native.Mathlib.Omega.{arith}
use Rattle.std.proofs.lemmas.Bool.{eqb-false}
use Rattle.std.proofs.Math.ListN.{get_or-append}
use Rattle.lists.specs.Lists.{list_of}
use Rattle.lists.specs.Entries.{length_list_of, get_d_list_of, list_of_same}
use Rattle.protocols.specs.declared.Protocol.{Protocol}
use Rattle.sizes.specs.Sizes.{refusal as refusal_of_sizes}
use Rattle.protocols.specs.Protocols.{line_in, beside}
use Rattle.sheet.specs.Sheet.{columns, bytes}
use Rattle.sheet.specs.Laws.{Accepted, accepted}
use Rattle.agreement.specs.Entries.{mark_only}
use Rattle.agreement.specs.declared.Entry.{Entry}
use Rattle.wall_run.specs.Run.{Outcomes, ended, entry_in, entries, refusal, row_after, in_places, settled, refused, outcomes, outcomes_in}

-- what the logic reads past the end of a list of entries
abbrev pub no_entry : Entry
no_entry = record { mark = 0; grade = 0; vote = 0; has_record = false; bytes = [] }

-- the entry at place i
abbrev pub entry_at : List Entry → ℕ → Entry
entry_at entries i = get_or entries i no_entry

-- an accepted sheet, and the poster beside it is one of its columns
pub accepted_run : (p : Protocol) (sheet : List ℕ) (rows : ℕ) → refusal p sheet rows ≡ 0
    → Accepted (line_in p (columns sheet) (bytes sheet)) sheet rows × (refusal_of_sizes (columns sheet) (bytes sheet) (beside p) ≡ 0)
unfolding refusal
accepted_run p sheet rows e = accepted (beside p) (line_in p (columns sheet) (bytes sheet)) sheet rows e

pub run_done : (p : Protocol) (sheet : List ℕ) (row : List Entry) → refusal p sheet (length row) ≡ 0 → row_after p sheet row ≡ entries p sheet
unfolding row_after
run_done p sheet row e = rw (eq-eqb (refusal p sheet (length row)) 0 e) refl

-- by cases: the run is refused, or it is not
module _ (p : Protocol) (sheet : List ℕ) (rows : ℕ) where
  pub run_refused : (refusal p sheet rows ≡ 0 → ⊥) → outcomes p sheet rows ≡ refused (refusal p sheet rows)
  unfolding outcomes
  run_refused h = simp (ne_eqb (refusal p sheet rows) 0 h)

  pub run_settled : refusal p sheet rows ≡ 0 → outcomes p sheet rows ≡ settled p sheet
  unfolding outcomes
  run_settled e = simp (eq-eqb (refusal p sheet rows) 0 e)

  pub by_refusal : (P : Outcomes → Type 0) → (refusal p sheet rows ≡ 0 → P (settled p sheet)) → ((refusal p sheet rows ≡ 0 → ⊥) → P (refused (refusal p sheet rows))) → P (outcomes p sheet rows)
  by_refusal P yes_case no_case = go (eqb (refusal p sheet rows) 0) refl
    where
      go : (b : Bool) → eqb (refusal p sheet rows) 0 ≡ b → P (outcomes p sheet rows)
      go true e = let z = eqb-true (refusal p sheet rows) 0 e in subst P (sym (run_settled z)) (yes_case z)
      go false e = let h = eqb-false (refusal p sheet rows) 0 e in subst P (sym (run_refused h)) (no_case h)

  pub outcomes_refusal : (outcomes p sheet rows).refusal ≡ refusal p sheet rows
  unfolding settled refused
  outcomes_refusal = by_refusal (λ o. o.refusal ≡ refusal p sheet rows) (λ e. sym e) (λ h. refl)

  -- a run has no more entries than the row has places, and no more than 31
  pub outcomes_fit : ((outcomes p sheet rows).count ≤ rows) × ((outcomes p sheet rows).count ≤ 31)
  unfolding settled refused
  outcomes_fit =
      by_refusal (λ o. (o.count ≤ rows) × (o.count ≤ 31))
      (λ e. let a = (accepted_run p sheet rows e).0 in (omega (arith, a.rows_are), a.arrays_there.range.columns_high)) (λ h. (omega arith, omega arith))

  -- read off what was returned: a refusal has the number,
  pub refused_with : (why : ℕ) → refused why ≡ outcomes p sheet rows → why ≡ refusal p sheet rows
  unfolding refused
  refused_with why e = ap (λ (o : Outcomes). o.refusal) e ∙ outcomes_refusal

  -- and where entries were returned, nothing is refused, and they are those of the columns
  pub settled_with : (n : ℕ) (es : List Entry) → outcomes_in n (Ok es) ≡ outcomes p sheet rows → (refusal p sheet rows ≡ 0) × (es ≡ in_places sheet (ended p sheet))
  unfolding settled
  settled_with n es e =
      let z : refusal p sheet rows ≡ 0 = sym outcomes_refusal ∙ sym (ap (λ (o : Outcomes). o.refusal) e) in
      (z, ap (λ (o : Outcomes). o.entries) (e ∙ run_settled z))

-- the first n entries of those in 31 places
pub in_places_lem : (p : Protocol) (sheet : List ℕ) → list_of (entry_at (in_places sheet (ended p sheet))) (columns sheet) ≡ entries p sheet
unfolding in_places entries
in_places_lem p sheet =
    list_of_same (entry_at (in_places sheet (ended p sheet))) (entry_in sheet (ended p sheet)) (columns sheet) (λ i l.
    get_or-append (list_of (entry_in sheet (ended p sheet)) (columns sheet)) (drop (columns sheet) (replicate 31 (mark_only 0))) no_entry i (omega (arith, length_list_of (entry_in sheet (ended p sheet)) (columns sheet)))
    ∙ get_d_list_of (entry_in sheet (ended p sheet)) (columns sheet) i no_entry l)

-- the row after a run that is refused, and after one that fills it
pub row_refused : (p : Protocol) (sheet : List ℕ) (row : List Entry) → (refusal p sheet (length row) ≡ 0 → ⊥) → row ≡ row_after p sheet row
unfolding row_after
row_refused p sheet row h = sym (simp (ne_eqb (refusal p sheet (length row)) 0 h))

pub row_filled : (p : Protocol) (sheet : List ℕ) (row es : List Entry) → refusal p sheet (length row) ≡ 0 → es ≡ in_places sheet (ended p sheet)
    → list_of (entry_at es) (length row) ≡ row_after p sheet row
row_filled p sheet row es z e =
    ap₂ {C = List Entry} (λ es k. list_of (entry_at es) k) e (accepted_run p sheet (length row) z).0.rows_are ∙ in_places_lem p sheet ∙ sym (run_done p sheet row z)
