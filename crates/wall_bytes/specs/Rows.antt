-- THE THIRD DEMAND, ONE LAST VOTE AND DEFINITION 3.10 OF A WALL RUN, proved of the bytes that `column_wall` and `posting_wall` write: `rows_demand`,
-- `rows_settled`, `rows_posted`.
use Rattle.std.specs.Prelude.{◌≡◌, List, [], ◌∷◌, ◌++◌, ℕ, zero, suc, ◌+◌, ◌-◌, ◌*◌, ◌≤◌, ◌<◌, length, get_or, take, drop}
use Rattle.std.proofs.Common.{sym, ap, ◌∙◌, arith, take_at, drop_at, drop-drop}
use Rattle.lists.specs.Lists.{Below}
use Rattle.lists.specs.Entries.{length_list_of}
use Rattle.protocols.specs.declared.Protocol.{Protocol}
use Rattle.protocols.specs.declared.Protocol.TheVariants.{Agreement, Posting}
use Rattle.messages.proofs.Laws.{if_done}
use Rattle.sheet.specs.Sheet.{columns}
use Rattle.agreement.specs.declared.Entry.{Entry}
use Rattle.agreement.specs.Entries.{mark_only}
use Rattle.wall_run.specs.Run.{ended, entry_in, entries}
use Rattle.wall_run.specs.Claim.{entry_of_column, Demand, Settled, Posted}
use Rattle.wall_run.specs.Entries.{entry_length_lem}
use Rattle.wall_run.specs.Theorem.{demand_as, wall_demand}
use Rattle.wall_run.specs.Settling.{settled_as, wall_settled}
use Rattle.wall_run.specs.Posting.{posted_as, wall_posted}
use Rattle.state_bytes.specs.Entry.{entry_length, entry_bytes, read_entry}
use Rattle.state_bytes.proofs.Inverse.{entry_read, entry_long}
use Rattle.wall_bytes.specs.Calls.{row_bytes, places, wall_answer, wall_row}

-- column i's entry of a row of bytes, as it reads
unfoldable pub entry_from : List ℕ → ℕ → Entry
entry_from row i = read_entry (take entry_length (drop (entry_length * (i - 1)) row))

row_entry : (es : List Entry) (q : ℕ) → ((j : ℕ) → length (get_or es j (mark_only 0)).bytes ≡ 32) → q < length es → take entry_length (drop (entry_length * q) (row_bytes es)) ≡ entry_bytes (get_or es q (mark_only 0))
unfolding row_bytes
row_entry [] q h l = absurd (omega arith)
row_entry (e ∷ es) zero h l = take_at (entry_bytes e) (row_bytes es) entry_length (entry_long e (h 0))
row_entry (e ∷ es) (suc q) h l =
    let place : entry_length * suc q ≡ entry_length + entry_length * q = omega arith in
    let behind : drop (entry_length * suc q) (entry_bytes e ++ row_bytes es) ≡ drop (entry_length * q) (row_bytes es) =
    ap (λ (k : ℕ). drop k (entry_bytes e ++ row_bytes es)) place ∙ sym (drop-drop (entry_length * q) entry_length (entry_bytes e ++ row_bytes es)) ∙ ap (drop (entry_length * q)) (drop_at (entry_bytes e) (row_bytes es) entry_length (entry_long e (h 0))) in
    ap (take entry_length) behind ∙ row_entry es q (λ j. h (suc j)) (omega arith)

length_entries : (p : Protocol) (sheet : List ℕ) → length (entries p sheet) ≡ columns sheet
unfolding entries
length_entries p sheet = length_list_of (entry_in sheet (ended p sheet)) (columns sheet)

-- the bytes of a row that was written read as the wall's entries
reads : (p : Protocol) (sheet row : List ℕ) → Below 256 sheet → wall_answer p sheet row ≡ 0 → (i : ℕ) → 1 ≤ i → i ≤ columns sheet → entry_from (wall_row p sheet row) i ≡ entry_of_column (entries p sheet) i
unfolding entry_from wall_row wall_answer entry_of_column
reads p sheet row small e i l u =
    ap (λ (bytes : List ℕ). read_entry (take entry_length (drop (entry_length * (i - 1)) bytes))) (if_done _ _ row e)
    ∙ ap read_entry (row_entry (entries p sheet) (i - 1) (entry_length_lem p sheet (places row) small e) (omega (arith, length_entries p sheet)))
    ∙ entry_read (get_or (entries p sheet) (i - 1) (mark_only 0))

-- THE THEOREMS
pub rows_demand : (sheet row : List ℕ) → Below 256 sheet → wall_answer Agreement sheet row ≡ 0 → Demand sheet (entry_from (wall_row Agreement sheet row))
unfolding wall_answer
rows_demand sheet row small e = demand_as sheet _ _ (reads Agreement sheet row small e) (wall_demand sheet (places row) small e)

pub rows_settled : (sheet row : List ℕ) → Below 256 sheet → wall_answer Agreement sheet row ≡ 0 → Settled sheet (entry_from (wall_row Agreement sheet row))
unfolding wall_answer
rows_settled sheet row small e = settled_as sheet _ _ (reads Agreement sheet row small e) (wall_settled sheet (places row) small e)

pub rows_posted : (s : ℕ) (sheet row : List ℕ) → Below 256 sheet → wall_answer (Posting s) sheet row ≡ 0 → Posted s sheet (entry_from (wall_row (Posting s) sheet row))
unfolding wall_answer
rows_posted s sheet row small e = posted_as s sheet _ _ (reads (Posting s) sheet row small e) (wall_posted s sheet (places row) small e)
