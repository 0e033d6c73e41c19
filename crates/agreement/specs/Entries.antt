-- The definitions of an entry. Document 01, "A whole wall": "An entry holds the mark, dispersal grade, last vote, whether the column ended on a
-- record, and 32 record bytes, zeros past m or without a record; an unsound column's entry is its mark and zeros."
use Rattle.std.specs.Prelude.{Bool, true, false, cond, List, ℕ, eqb, take, replicate, Result, Ok, Err}
use Rattle.std.proofs.Math.Option.{Option, none, some}
use Rattle.sizes.specs.declared.numbers.Refusal.{Refusal}
use Rattle.sizes.specs.Refusals.{number}
use Rattle.agreement.specs.declared.Outcome.TheVariants.{Nothing, Record}
use Rattle.agreement.specs.Replies.{Reply}
use Rattle.agreement.specs.Replies.{Ended, Refused}
use Rattle.agreement.specs.Replies.{Replied}
use Rattle.agreement.specs.declared.Column.{Column}
use Rattle.agreement.specs.declared.Entry.{Entry}
use Rattle.agreement.specs.Replies.{Told}
use Rattle.agreement.specs.Calls.{outcome_refusal, outcome}

unfoldable pub ends_on_record : Reply → Bool
ends_on_record (Ended Nothing) = false
ends_on_record (Ended Record) = true
ends_on_record (Refused why) = false

unfoldable pub mark_only : ℕ → Entry
mark_only mark = record { mark = mark; grade = 0; vote = 0; has_record = false; bytes = replicate 32 0 }

-- of a sound column, by what it answers when it is asked for its outcome
unfoldable pub entry_asked : Replied → Entry
entry_asked r = record { mark = 0; grade = r.grade; vote = r.column.vote; has_record = ends_on_record r.reply; bytes = r.bytes }

unfoldable pub sound_entry : Column → Entry
sound_entry c = entry_asked (outcome c)

-- of a column that may have come to no outcome: the refusal of a call for it, and the entry, a mark and zeros where it is refused
unfoldable pub told : Column → Told
told c = record { refusal = outcome_refusal c; entry = cond (eqb (outcome_refusal c) 0) (sound_entry c) (mark_only 0) }

-- a call for the entry returns it, or why it is refused
abbrev pub told_in : Result Entry Refusal → Told
told_in (Ok entry) = record { refusal = 0; entry = entry }
told_in (Err why) = record { refusal = number why; entry = mark_only 0 }

-- "Outcomes are the same when all are none, or all are records with equal m bytes": none, or the record's m bytes
unfoldable pub ended_on : ℕ → Entry → Option (List ℕ)
ended_on m e = cond e.has_record (some (take m e.bytes)) none
