-- DEFINITION 3.10, proved of the entries of every posting wall that is not refused: `entries_posted`.
use Rattle.std.specs.Prelude.{◌≡◌, ℕ, ◌≤◌, length}
use Rattle.std.proofs.Math.Path.{refl, ap}
use Rattle.std.proofs.Common.{sym, ◌∙◌}
use mathlib.Core.List.{List, [], append-nil}
use Rattle.lists.specs.Lists.{Below}
use Rattle.protocols.specs.declared.Protocol.TheVariants.{Posting}
use Rattle.sizes.specs.Sizes.{refusal as refusal_of_sizes}
use Rattle.protocols.specs.Protocols.{line_in, beside}
use Rattle.messages.specs.Wall.{Sound}
use Rattle.agreement.specs.declared.Column.{Column}
use Rattle.machine.specs.Lists.{leading_calls, final, made}
use Rattle.agreement.specs.Machine.{machine}
use Rattle.machine.specs.Machine.{Asks}
use Rattle.machine.specs.Gradecast.{Outputs, Posted as PostedOfCalls}
use Rattle.machine.proofs.Carried.{gradecast_as}
use Rattle.agreement.proofs.Binding.{vote_lasts}
use Rattle.agreement.proofs.Posting.{posts}
use Rattle.sheet.specs.Sheet.{columns, bytes, sound, record_of}
use Rattle.sheet.specs.Laws.{Accepted}
use Rattle.agreement.specs.declared.Entry.{Entry}
use Rattle.agreement.specs.Calls.{outcome}
use Rattle.agreement.specs.Entries.{entry_asked, sound_entry, ended_on}
use Rattle.agreement.proofs.Endings.{ends_as}
use Rattle.wall_run.specs.Run.{entries, refusal, row_after, outcomes}
use Rattle.wall_run.specs.Row.{accepted_run, run_done, outcomes_refusal}
use Rattle.wall_run.specs.Claim.{entry_of_column, Posted}
use Rattle.wall_run.specs.Columns.{delivered, entry_is}
use Rattle.wall_run.specs.Played.{calls, run}
use Rattle.wall_run.specs.Entries.{last_is, shows, outcome_entry}

module _ (s : ℕ) (sheet : List ℕ) {rows : ℕ} (small : Below 256 sheet) (A : Accepted (line_in (Posting s) (columns sheet) (bytes sheet)) sheet rows)
    (poster : refusal_of_sizes (columns sheet) (bytes sheet) (beside (Posting s)) ≡ 0) where
  abbrev n : ℕ
  n = columns sheet

  abbrev m : ℕ
  m = bytes sheet

  P : PostedOfCalls (machine (Posting s)) s n m (sound sheet) (record_of sheet) (calls (Posting s) sheet)
  P = posts s _ _ _ _ _ _ _ (run (Posting s) sheet small A poster)

  module _ (i : ℕ) (si : Sound n (sound sheet) i) where
    -- a column at the end of its calls
    abbrev ended : Column
    ended = final (machine (Posting s)) (made (machine (Posting s)) n m (record_of sheet) i) (calls (Posting s) sheet i)

    outputs : Outputs (machine (Posting s)) m (P.grade i) (P.value i) ended Asks
    unfolding leading_calls
    outputs = P.outputs i si (calls (Posting s) sheet i) [] (sym (append-nil (calls (Posting s) sheet i))) refl Asks refl tt

    -- its entry shows what it outputs
    shown : ((entry_of_column (entries (Posting s) sheet) i).grade ≡ P.grade i) × (ended_on m (entry_of_column (entries (Posting s) sheet) i) ≡ P.value i)
    unfolding sound_entry entry_asked
    shown =
        let e = shows (Posting s) sheet small A poster i si in
        (ap (λ (e : Entry). e.grade) e ∙ outputs.1, ap (ended_on m) e ∙ ends_as m ended ∙ outputs.0.1)

    voted : (entry_of_column (entries (Posting s) sheet) i).vote ≡ 1
    unfolding sound_entry entry_asked outcome
    voted =
        ap (λ (e : Entry). e.vote) (entry_is (Posting s) sheet i si) ∙ ap (λ (c : Column). c.vote) (last_is (Posting s) sheet small A poster i si)
        ∙ vote_lasts s n m i (record_of sheet i) (delivered (Posting s) sheet i)

  posted : Posted s sheet (entry_of_column (entries (Posting s) sheet))
  posted =
      record {
        gradecast = gradecast_as P.grade (λ i. (entry_of_column (entries (Posting s) sheet) i).grade) P.value (λ i. ended_on m (entry_of_column (entries (Posting s) sheet) i)) shown P.gradecast;
        votes = voted;
      }

-- entries that are the same at the columns
pub posted_as : (s : ℕ) (sheet : List ℕ) (entry entry' : ℕ → Entry) → ((i : ℕ) → 1 ≤ i → i ≤ columns sheet → entry' i ≡ entry i) → Posted s sheet entry → Posted s sheet entry'
posted_as s sheet entry entry' e D =
    record {
      gradecast = gradecast_as (λ i. (entry i).grade) (λ i. (entry' i).grade) (λ i. ended_on (bytes sheet) (entry i)) (λ i. ended_on (bytes sheet) (entry' i))
          (λ i si. (ap (λ (e : Entry). e.grade) (e i si.0 si.1), ap (ended_on (bytes sheet)) (e i si.0 si.1))) D.gradecast;
      votes = λ i si. ap (λ (e : Entry). e.vote) (e i si.0 si.1) ∙ D.votes i si;
    }

-- THE THEOREM
pub wall_posted : (s : ℕ) (sheet : List ℕ) (rows : ℕ) → Below 256 sheet → refusal (Posting s) sheet rows ≡ 0 → Posted s sheet (entry_of_column (entries (Posting s) sheet))
wall_posted s sheet rows small e =
    let a = accepted_run (Posting s) sheet rows e in
    posted s sheet small a.0 a.1

-- of the row that `run` leaves, and of what `outcomes_of` answers
pub entries_posted : (s : ℕ) (sheet : List ℕ) (row : List Entry) → Below 256 sheet → refusal (Posting s) sheet (length row) ≡ 0 → Posted s sheet (entry_of_column (row_after (Posting s) sheet row))
entries_posted s sheet row small e = rw (run_done (Posting s) sheet row e) (wall_posted s sheet (length row) small e)

pub outcomes_posted : (s : ℕ) (sheet : List ℕ) (rows : ℕ) → Below 256 sheet → (outcomes (Posting s) sheet rows).refusal ≡ 0 → Posted s sheet (entry_of_column (outcomes (Posting s) sheet rows).entries)
outcomes_posted s sheet rows small h =
    let e = sym (outcomes_refusal (Posting s) sheet rows) ∙ h in
    posted_as s sheet _ _ (outcome_entry (Posting s) sheet rows e) (wall_posted s sheet rows small e)
