-- The calls for C and Rust as a machine, by their definitions in Calls: `column_fresh` or `posting_fresh`, `column_speak`, `column_listen`,
-- `column_outcome`. A call may be lent a slice for the state or for the outcome that has not its length, and anything may lie in any slice.
use Rattle.std.specs.Prelude.{Bool, true, false, ◌&&◌, List, [], ◌++◌, ℕ, eqb, length, take, drop}
use Rattle.protocols.specs.declared.Protocol.{Protocol}
use Rattle.protocols.specs.Protocols.{beside, number_of, protocol_of}
use Rattle.machine.specs.Machine.{Call, Speaks, Listens, Asks, Machine}
use Rattle.agreement.specs.Entries.{ended_on}
use Rattle.state_bytes.specs.Layout.{Grade, number}
use Rattle.state_bytes.specs.Entry.{entry_length, read_entry}
use Rattle.column_bytes.specs.Calls.{narrow, fresh_answer, fresh_state, speak_answer, speak_state, speak_out, listen_answer, listen_state, outcome_answer, outcome_out}

-- A SLICE FOR THE STATE: the state itself, or its first k bytes and others behind them, which for k = 0 is any slice
pub data Lent : Type 0 where
  whole : Lent
  other : ℕ → List ℕ → Lent

unfoldable pub lent : Lent → List ℕ → List ℕ
lent whole state = state
lent (other k behind) state = take k state ++ behind

-- the state, where a call left `slice` in the one that it was lent
unfoldable pub left : Lent → List ℕ → List ℕ → List ℕ
left whole state slice = slice
left (other k behind) state slice = take (length (take k state)) slice ++ drop k state

unfoldable pub is_whole : Lent → Bool
is_whole whole = true
is_whole (other k behind) = false

-- A CALL, with the slice for the state, and the slice of values or the one for the outcome
pub data BytesCall : Type 0 where
  speaks listens asks : Lent → List ℕ → BytesCall

unfoldable pub call_of : BytesCall → Call
call_of (speaks x out) = Speaks out
call_of (listens x inbox) = Listens inbox
call_of (asks x row) = Asks

-- a state has its length, and an outcome an entry's
unfoldable pub required : BytesCall → Bool
required (speaks x out) = is_whole x
required (listens x inbox) = is_whole x
required (asks x row) = is_whole x && eqb (length row) entry_length

-- the number that a call answers; the state that it leaves; the slice of values after it
unfoldable pub answer : List ℕ → BytesCall → ℕ
answer state (speaks x out) = speak_answer (lent x state) out
answer state (listens x inbox) = listen_answer (lent x state) inbox
answer state (asks x row) = outcome_answer (lent x state) row

unfoldable pub after : List ℕ → BytesCall → List ℕ
after state (speaks x out) = left x state (speak_state (lent x state) out)
after state (listens x inbox) = left x state (listen_state (lent x state) inbox)
after state (asks x row) = state

unfoldable pub slice_after : List ℕ → BytesCall → List ℕ
slice_after state (speaks x out) = speak_out (lent x state) out
slice_after state (listens x inbox) = inbox
slice_after state (asks x row) = []

-- the entry that a call for the outcome leaves in its slice
unfoldable pub entry_after : List ℕ → BytesCall → List ℕ
entry_after state (speaks x out) = []
entry_after state (listens x inbox) = []
entry_after state (asks x row) = outcome_out (lent x state) row

-- a poster's number from 256 on counts as 255
unfoldable pub narrowed : Protocol → Protocol
narrowed p = protocol_of (number_of p) (narrow (beside p))

-- column i is made in the slice `slot i`
abbrev pub machine : Protocol → (ℕ → List ℕ) → Machine (List ℕ) BytesCall
machine p slot =
    record {
      fresh_refusal = λ n m own bytes. fresh_answer (narrowed p) (narrow n) (narrow m) (narrow own) bytes (slot own);
      fresh = λ n m own bytes. fresh_state (narrowed p) (narrow n) (narrow m) (narrow own) bytes (slot own);
      call = call_of;
      required = required;
      refusal = answer;
      after = after;
      written = slice_after;
      told = λ state k m. ended_on m (read_entry (entry_after state k));
      told_grade = λ state k. (read_entry (entry_after state k)).grade;
      grade = λ state. number state Grade;
    }
