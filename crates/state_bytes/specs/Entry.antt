-- The definitions of an entry as bytes: four numbers, mark, grade, vote, 1 for a record or 0 for none, and the record's 32 places.
use Rattle.std.specs.Prelude.{List, ◌∷◌, ℕ, ◌+◌, eqb, get_or, drop}
use Rattle.lists.specs.Lists.{bit}
use Rattle.agreement.specs.declared.Entry.{Entry}

abbrev pub entry_numbers : ℕ
entry_numbers = 4

abbrev pub entry_length : ℕ
entry_length = entry_numbers + 32

unfoldable pub entry_bytes : Entry → List ℕ
entry_bytes e = e.mark ∷ e.grade ∷ e.vote ∷ bit e.has_record ∷ e.bytes

-- as it reads
unfoldable pub read_entry : List ℕ → Entry
read_entry entry =
    record { mark = get_or entry 0 0; grade = get_or entry 1 0; vote = get_or entry 2 0; has_record = eqb (get_or entry 3 0) 1; bytes = drop entry_numbers entry }
