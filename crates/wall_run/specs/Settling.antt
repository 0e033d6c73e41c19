-- ONE LAST VOTE, proved of the entries of every wall run that is not refused: `entries_settled`.
use Rattle.std.specs.Prelude.{◌≡◌, List, ℕ, ◌≤◌, length}
use Rattle.std.proofs.Common.{sym, ap, ◌∙◌}
use Rattle.lists.specs.Lists.{Below}
use Rattle.protocols.specs.declared.Protocol.TheVariants.{Agreement}
use Rattle.machine.proofs.Carried.{last_vote}
use Rattle.agreement.specs.declared.Entry.{Entry}
use Rattle.agreement.specs.Calls.{outcome}
use Rattle.agreement.specs.Entries.{entry_asked, sound_entry}
use Rattle.agreement.specs.Machine.{machine}
use Rattle.agreement.proofs.Settling.{settles}
use Rattle.sheet.specs.Sheet.{columns}
use Rattle.wall_run.specs.Run.{entries, refusal, row_after, outcomes}
use Rattle.wall_run.specs.Row.{accepted_run, run_done, outcomes_refusal}
use Rattle.wall_run.specs.Claim.{entry_of_column, Settled}
use Rattle.wall_run.specs.Played.{run}
use Rattle.wall_run.specs.Entries.{shows, outcome_entry}

-- the vote of an entry is the column's
pub wall_settled : (sheet : List ℕ) (rows : ℕ) → Below 256 sheet → refusal Agreement sheet rows ≡ 0 → Settled sheet (entry_of_column (entries Agreement sheet))
unfolding sound_entry entry_asked outcome
wall_settled sheet rows small e =
    let (A, poster) = accepted_run Agreement sheet rows e in
    let R = run Agreement sheet small A poster in
    let D = settles _ _ _ _ _ _ _ R in
    (D.bit, λ i si. ap (λ (e : Entry). e.vote) (shows Agreement sheet small A poster i si) ∙ last_vote (machine Agreement) R D i si)

-- entries that are the same at the columns
pub settled_as : (sheet : List ℕ) (entry entry' : ℕ → Entry) → ((i : ℕ) → 1 ≤ i → i ≤ columns sheet → entry' i ≡ entry i) → Settled sheet entry → Settled sheet entry'
settled_as sheet entry entry' e D = (D.0, λ i si. ap (λ (e : Entry). e.vote) (e i si.0 si.1) ∙ D.1 i si)

-- THE THEOREM, of the row that `run` leaves, and of what `outcomes_of` answers
pub entries_settled : (sheet : List ℕ) (row : List Entry) → Below 256 sheet → refusal Agreement sheet (length row) ≡ 0 → Settled sheet (entry_of_column (row_after Agreement sheet row))
entries_settled sheet row small e = rw (run_done Agreement sheet row e) (wall_settled sheet (length row) small e)

pub outcomes_settled : (sheet : List ℕ) (rows : ℕ) → Below 256 sheet → (outcomes Agreement sheet rows).refusal ≡ 0 → Settled sheet (entry_of_column (outcomes Agreement sheet rows).entries)
outcomes_settled sheet rows small h =
    let e = sym (outcomes_refusal Agreement sheet rows) ∙ h in
    settled_as sheet _ _ (outcome_entry Agreement sheet rows e) (wall_settled sheet rows small e)
