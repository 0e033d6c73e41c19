-- The definitions of the calls for C and Rust: for every input the number that a call answers, 0 or document 01's of a refusal, and what stands
-- in each lent slice after it. A column's state is bytes (`encode`, `decode`); each call on bytes is the call on the column that they are.
use Rattle.std.specs.Prelude.{cond, List, ℕ, eqb, ltb, length}
use Rattle.sizes.specs.Sizes.{outside}
use Rattle.protocols.specs.declared.Protocol.{Protocol}
use Rattle.protocols.specs.Protocols.{rounds_in, values_in, protocol_count, protocol_of}
use Rattle.messages.specs.Messages.{refusal, unless_refused}
use Rattle.agreement.specs.Calls.{refusal_of}
use Rattle.agreement.specs.Calls as C
use Rattle.agreement.specs.Entries.{sound_entry}
use Rattle.state_bytes.specs.Layout.{state_length, encode, decode, is_state}
use Rattle.state_bytes.specs.Entry.{entry_length, entry_bytes}

-- A size or a number of a column is wider here than a byte; from 256 on it counts as 255, which every range refuses
unfoldable pub narrow : ℕ → ℕ
narrow v = cond (ltb v 256) v 255

-- HOW LONG A RUN AND ITS MESSAGES ARE, of the protocol with this number in a state: 0 where there is none, n or m is no wall's, or the run has no
-- such round

unfoldable pub rounds_of : ℕ → ℕ → ℕ
rounds_of runs n = cond (ltb runs protocol_count) (cond (outside 4 31 n) 0 (rounds_in (protocol_of runs 1) n)) 0

unfoldable pub values_of : ℕ → ℕ → ℕ → ℕ → ℕ
values_of runs n m round =
    cond (outside 4 31 n) 0 (cond (outside 1 32 m) 0 (cond (outside 1 (rounds_of runs n) round) 0 (values_in (protocol_of runs 1) n m round)))

-- A COLUMN. "4: a slice .. whose length is not the one required": from a slice that has not a state's length no state can be read, and the call
-- answers 4 before everything else; bytes of that length that are no state are refused with 11, before the refusals of the call. A slice for
-- an answer that has not its length is refused with 4 after everything else

unfoldable pub state_refusal : List ℕ → ℕ
state_refusal state = cond (eqb (length state) state_length) (cond (is_state state) 0 11) 4

-- the number of a call whose own is `why`
unfoldable pub numbered : List ℕ → ℕ → ℕ
numbered state why = C.or_else (state_refusal state) why

unfoldable pub fresh_answer : Protocol → ℕ → ℕ → ℕ → List ℕ → List ℕ → ℕ
fresh_answer p n m own bytes state = refusal (refusal_of (C.fresh p n m own bytes).answer) 1 state_length (length state)

unfoldable pub fresh_state : Protocol → ℕ → ℕ → ℕ → List ℕ → List ℕ → List ℕ
fresh_state p n m own bytes state = unless_refused (fresh_answer p n m own bytes state) (encode (C.fresh p n m own bytes).column) state

unfoldable pub speak_answer : List ℕ → List ℕ → ℕ
speak_answer state out = numbered state (refusal_of (C.speak (decode state) out).answer)

unfoldable pub speak_state : List ℕ → List ℕ → List ℕ
speak_state state out = unless_refused (speak_answer state out) (encode (C.speak (decode state) out).column) state

unfoldable pub speak_out : List ℕ → List ℕ → List ℕ
speak_out state out = cond (is_state state) (C.written (decode state) out) out

unfoldable pub listen_answer : List ℕ → List ℕ → ℕ
listen_answer state inbox = numbered state (refusal_of (C.listen (decode state) inbox).answer)

unfoldable pub listen_state : List ℕ → List ℕ → List ℕ
listen_state state inbox = unless_refused (listen_answer state inbox) (encode (C.listen (decode state) inbox).column) state

unfoldable pub outcome_answer : List ℕ → List ℕ → ℕ
outcome_answer state out = refusal (numbered state (C.outcome_refusal (decode state))) 1 entry_length (length out)

-- what the column ended on, as a wall's entry has it
unfoldable pub outcome_out : List ℕ → List ℕ → List ℕ
outcome_out state out = unless_refused (outcome_answer state out) (entry_bytes (sound_entry (decode state))) out
