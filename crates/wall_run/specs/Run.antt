-- The definitions of a run of a whole wall, in every protocol. Document 01, "A whole wall": "The wall run drives n columns with
-- the same calls."; and "Posting by one column".
use Rattle.std.specs.Prelude.{Result, Ok, Err, cond, List, ◌++◌, ℕ, zero, suc, ◌+◌, ◌-◌, ◌*◌, eqb, length, get_or, drop, replicate}
use Rattle.lists.specs.Lists.{sum, list_of, rows_of}
use Rattle.field.specs.Field.{blank}
use Rattle.protocols.specs.declared.Protocol.{Protocol}
use Rattle.protocols.specs.Protocols.{rounds_in, values_in, line_in, beside}
use Rattle.messages.specs.Messages.{said}
use Rattle.agreement.specs.declared.Column.{Column}
use Rattle.agreement.specs.declared.Entry.{Entry}
use Rattle.agreement.specs.Calls.{fresh, no_column, speak, written, listen}
use Rattle.agreement.specs.Entries.{mark_only, sound_entry}
use Rattle.sheet.specs.Sheet.{columns, bytes, mark, sound, record_of, refusal as refusal_of_sheet}
use Rattle.delivery.specs.declared.Round.{Round}
use Rattle.delivery.specs.Delivery.{inbox}
use Rattle.sizes.specs.declared.numbers.Refusal.{Refusal}
use Rattle.sizes.specs.Refusals.{number}

-- THE COLUMNS, by number, in 31 places

-- column i
unfoldable pub column_at : List Column → ℕ → Column
column_at wall i = get_or wall (i - 1) no_column

-- what becomes of the column that i others stand before
unfoldable pub turned : (ℕ → Column → Column) → List Column → ℕ → Column
turned f wall i = f (i + 1) (get_or wall i no_column)

-- columns 1 to n, each after what `f` does to it
unfoldable pub each : ℕ → (ℕ → Column → Column) → List Column → List Column
each n f wall = list_of (turned f wall) n ++ drop n wall

-- column i + 1 is made with its number and its record
unfoldable pub made : Protocol → List ℕ → ℕ → Column
made p sheet i = (fresh p (columns sheet) (bytes sheet) (i + 1) (record_of sheet (i + 1))).column

unfoldable pub start : Protocol → List ℕ → List Column
start p sheet = list_of (made p sheet) (columns sheet) ++ drop (columns sheet) (replicate 31 no_column)

-- A ROUND. "An unsound column's messages come from its lines"; the sound columns are called

-- round r: its place in the lines, and the values of a message
unfoldable pub round_at : Protocol → List ℕ → ℕ → Round
round_at p sheet r =
    record { line = line_in p (columns sheet) (bytes sheet); offset = sum (values_in p (columns sheet) (bytes sheet)) (r - 1); width = values_in p (columns sheet) (bytes sheet) r }

-- the slice that a column is lent to speak: one message of w values for each of n columns, blank
unfoldable pub blanks : ℕ → ℕ → List ℕ
blanks n w = replicate (n * w) blank

-- column i spoke: its state, and what it said
unfoldable pub spoken : List ℕ → ℕ → ℕ → Column → Column
spoken sheet w i c = cond (sound sheet i) (speak c (blanks (columns sheet) w)).column c

unfoldable pub words : List ℕ → ℕ → ℕ → Column → List ℕ
words sheet w i c = cond (sound sheet i) (written c (blanks (columns sheet) w)) (blanks (columns sheet) w)

-- what column j of the wall said
unfoldable pub words_of : List ℕ → ℕ → List Column → ℕ → ℕ → ℕ
words_of sheet w wall j = said (words sheet w j (column_at wall j))

-- what all columns said, by the sender's number
unfoldable pub mail : List ℕ → ℕ → List Column → List ℕ
mail sheet w wall = rows_of (words_of sheet w wall) (columns sheet * w) (columns sheet)

-- column i listens to what the mail and the lines have for it
unfoldable pub heard : List ℕ → Round → List ℕ → ℕ → Column → Column
heard sheet round letters i c = cond (sound sheet i) (listen c (inbox sheet round letters i)).column c

-- first all speak, then all listen
unfoldable pub played : List ℕ → Round → List Column → List Column
played sheet round wall =
    each (columns sheet) (heard sheet round (mail sheet round.width wall)) (each (columns sheet) (spoken sheet round.width) wall)

-- the columns after q rounds, and after all
unfoldable pub after : Protocol → List ℕ → ℕ → List Column
after p sheet zero = start p sheet
after p sheet (suc q) = played sheet (round_at p sheet (suc q)) (after p sheet q)

unfoldable pub ended : Protocol → List ℕ → List Column
ended p sheet = after p sheet (rounds_in p (columns sheet))

-- THE ENTRIES

-- the entry of column i, which came to c
unfoldable pub entry_of : List ℕ → ℕ → Column → Entry
entry_of sheet i c = cond (sound sheet i) (sound_entry c) (mark_only (mark sheet i))

-- the entry of the column that i others stand before
unfoldable pub entry_in : List ℕ → List Column → ℕ → Entry
entry_in sheet wall i = entry_of sheet (i + 1) (get_or wall i no_column)

-- "written to a lent row of entries, one for each column"
unfoldable pub entries : Protocol → List ℕ → List Entry
entries p sheet = list_of (entry_in sheet (ended p sheet)) (columns sheet)

-- THE RUN

-- the refusal of a sheet and a row of `rows` entries; "a posting wall takes s beside the sheet"
unfoldable pub refusal : Protocol → List ℕ → ℕ → ℕ
refusal p sheet rows = refusal_of_sheet (beside p) (line_in p (columns sheet) (bytes sheet)) sheet rows

-- the row after the run; "no lent slice is written" where it is refused
unfoldable pub row_after : Protocol → List ℕ → List Entry → List Entry
row_after p sheet row = cond (eqb (refusal p sheet (length row)) 0) (entries p sheet) row

-- the entries in 31 places, a mark 0 and zeros past n
unfoldable pub in_places : List ℕ → List Column → List Entry
in_places sheet wall = list_of (entry_in sheet wall) (columns sheet) ++ drop (columns sheet) (replicate 31 (mark_only 0))

-- what a run comes to: the number of the refusal, 0 for none; how many columns have an entry, none where it is refused; and the entries by
-- column number, zeros alone where it is refused
pub record Outcomes : Type 0 where
  pub refusal : ℕ
  pub count : ℕ
  pub entries : List Entry

unfoldable pub settled : Protocol → List ℕ → Outcomes
settled p sheet = record { refusal = 0; count = columns sheet; entries = in_places sheet (ended p sheet) }

unfoldable pub refused : ℕ → Outcomes
refused why = record { refusal = why; count = 0; entries = replicate 31 (mark_only 0) }

-- for a row of `rows` entries
unfoldable pub outcomes : Protocol → List ℕ → ℕ → Outcomes
outcomes p sheet rows = cond (eqb (refusal p sheet rows) 0) (settled p sheet) (refused (refusal p sheet rows))

-- read off what a call returns, on a wall of n columns
abbrev pub outcomes_in : ℕ → Result (List Entry) Refusal → Outcomes
outcomes_in n (Ok entries) = record { refusal = 0; count = n; entries = entries }
outcomes_in n (Err why) = refused (number why)
