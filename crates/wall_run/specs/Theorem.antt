-- THE THIRD DEMAND, proved of the entries of every wall run that is not refused: `entries_demand`.
use Rattle.std.specs.Prelude.{◌≡◌, ℕ, ◌≤◌, length}
use Rattle.std.proofs.Math.Path.{refl, sym, ap}
use Rattle.std.proofs.Common.{◌∙◌, arith}
use mathlib.Core.List.{List, [], append-nil}
use Rattle.lists.specs.Lists.{Below}
use Rattle.protocols.specs.declared.Protocol.{Protocol}
use Rattle.protocols.specs.declared.Protocol.TheVariants.{Agreement}
use Rattle.sizes.specs.Sizes.{refusal as refusal_of_sizes}
use Rattle.protocols.specs.Protocols.{rounds_in, line_in, beside, posts}
use Rattle.protocols.proofs.Laws.{rounds_in_some}
use Rattle.messages.specs.Wall.{Sound}
use Rattle.agreement.specs.declared.Column.{Column}
use Rattle.machine.specs.Lists.{after_leading, leading_calls}
use Rattle.agreement.specs.Machine.{machine}
use Rattle.machine.specs.Machine.{Asks}
use Rattle.machine.specs.Claim.{Demand as DemandOfCalls, leaves}
use Rattle.machine.proofs.Carried.{agreed_as}
use Rattle.agreement.proofs.Agreeing.{grade_lasts}
use Rattle.agreement.proofs.Course.{course, course_is}
use Rattle.agreement.proofs.Theorem.{third_demand}
use Rattle.sheet.specs.Sheet.{columns, bytes, sound, record_of}
use Rattle.sheet.specs.Laws.{Accepted}
use Rattle.agreement.specs.declared.Entry.{Entry}
use Rattle.agreement.specs.Calls.{reply_of, grade_shown, outcome}
use Rattle.agreement.specs.Entries.{entry_asked, sound_entry, ended_on}
use Rattle.agreement.proofs.Endings.{ends_as}
use Rattle.wall_run.specs.Run.{entries, refusal, row_after, outcomes}
use Rattle.wall_run.specs.Row.{accepted_run, run_done, outcomes_refusal}
use Rattle.wall_run.specs.Claim.{entry_of_column, Demand}
use Rattle.wall_run.specs.Columns.{delivered, entry_is}
use Rattle.wall_run.specs.Played.{calls, made_is, walked, run}
use Rattle.wall_run.specs.Entries.{last_is, shows, outcome_entry}

module _ (sheet : List ℕ) {rows : ℕ} (small : Below 256 sheet) (A : Accepted (line_in Agreement (columns sheet) (bytes sheet)) sheet rows)
    (poster : refusal_of_sizes (columns sheet) (bytes sheet) (beside Agreement) ≡ 0) where
  abbrev n : ℕ
  n = columns sheet

  abbrev m : ℕ
  m = bytes sheet

  D : DemandOfCalls (machine Agreement) n m (sound sheet) (record_of sheet) (calls Agreement sheet)
  D = third_demand _ _ _ _ _ _ _ (run Agreement sheet small A poster)

  module _ (i : ℕ) (si : Sound n (sound sheet) i) where
    abbrev last : Column
    last = course Agreement n m i (record_of sheet i) (delivered Agreement sheet i) (rounds_in Agreement n)

    -- the grade of its entry is that with which it leaves dispersal
    grade_is : (entry_of_column (entries Agreement sheet) i).grade ≡ leaves (machine Agreement) n m (record_of sheet) (calls Agreement sheet) i
    unfolding sound_entry entry_asked outcome grade_shown posts
    grade_is =
        ap (λ (e : Entry). e.grade) (entry_is Agreement sheet i si)
        ∙ ap (λ (c : Column). grade_shown c.protocol c.grade (reply_of c)) (last_is Agreement sheet small A poster i si)
        ∙ ap (λ (p : Protocol). grade_shown p last.grade (reply_of last)) (course_is Agreement n m i (record_of sheet i) (delivered Agreement sheet i) (rounds_in Agreement n)).protocol_is
        ∙ grade_lasts n m i (record_of sheet i) (delivered Agreement sheet i) (rounds_in Agreement n) (omega (arith, rounds_in_some Agreement n))
        ∙ sym (ap (λ (c : Column). (after_leading (machine Agreement) 6 c (calls Agreement sheet i)).grade) (made_is Agreement sheet small A poster i si)
        ∙ ap (λ (c : Column). c.grade) ((walked Agreement sheet small A poster i si).led 6 3 refl (omega (arith, rounds_in_some Agreement n))))

    outcome_is : ended_on m (entry_of_column (entries Agreement sheet) i) ≡ D.value i
    unfolding leading_calls
    outcome_is =
        ap (ended_on m) (shows Agreement sheet small A poster i si) ∙ ends_as m _
        ∙ (D.outputs i si (calls Agreement sheet i) [] (sym (append-nil (calls Agreement sheet i))) refl Asks refl tt).1

  demand : Demand sheet (entry_of_column (entries Agreement sheet))
  demand = agreed_as _ _ (leaves (machine Agreement) n m (record_of sheet) (calls Agreement sheet)) _ outcome_is grade_is D.agreed

-- entries that are the same at the columns
pub demand_as : (sheet : List ℕ) (entry entry' : ℕ → Entry) → ((i : ℕ) → 1 ≤ i → i ≤ columns sheet → entry' i ≡ entry i) → Demand sheet entry → Demand sheet entry'
demand_as sheet entry entry' e D =
    agreed_as (λ i. ended_on (bytes sheet) (entry i)) _ (λ i. (entry i).grade) _ (λ i si. ap (ended_on (bytes sheet)) (e i si.0 si.1)) (λ i si. ap (λ (e : Entry). e.grade) (e i si.0 si.1)) D

-- THE THEOREM
pub wall_demand : (sheet : List ℕ) (rows : ℕ) → Below 256 sheet → refusal Agreement sheet rows ≡ 0 → Demand sheet (entry_of_column (entries Agreement sheet))
wall_demand sheet rows small e =
    let a = accepted_run Agreement sheet rows e in
    demand sheet small a.0 a.1

-- of the row that `run` leaves, and of what `outcomes_of` answers
pub entries_demand : (sheet : List ℕ) (row : List Entry) → Below 256 sheet → refusal Agreement sheet (length row) ≡ 0 → Demand sheet (entry_of_column (row_after Agreement sheet row))
entries_demand sheet row small e = rw (run_done Agreement sheet row e) (wall_demand sheet (length row) small e)

pub outcomes_demand : (sheet : List ℕ) (rows : ℕ) → Below 256 sheet → (outcomes Agreement sheet rows).refusal ≡ 0 → Demand sheet (entry_of_column (outcomes Agreement sheet rows).entries)
outcomes_demand sheet rows small h =
    let e = sym (outcomes_refusal Agreement sheet rows) ∙ h in
    demand_as sheet _ _ (outcome_entry Agreement sheet rows e) (wall_demand sheet rows small e)
