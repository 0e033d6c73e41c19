-- A column's calls as a machine, by their definitions in Calls. What a run of it is and what is claimed of one is
-- defined in `machine`, and proved in Theorem and Posting.
use Rattle.std.specs.Prelude.{refl, true, List, [], ℕ}
use Rattle.protocols.specs.declared.Protocol.{Protocol}
use Rattle.machine.specs.Machine.{Call, Speaks, Listens, Asks, Machine}
use Rattle.machine.specs.Simulates.{Plain}
use Rattle.agreement.specs.declared.Column.{Column}
use Rattle.agreement.specs.Calls.{refusal_of, fresh, speak, written, listen, outcome, refusal_in, record_in}

-- the refusal of a call, 0 for none
unfoldable pub refusal_at : Column → Call → ℕ
refusal_at c (Speaks out) = refusal_of (speak c out).answer
refusal_at c (Listens inbox) = refusal_of (listen c inbox).answer
refusal_at c Asks = refusal_in (outcome c).reply

-- the state that it leaves
unfoldable pub after : Column → Call → Column
after c (Speaks out) = (speak c out).column
after c (Listens inbox) = (listen c inbox).column
after c Asks = (outcome c).column

-- the slice after it: a call to listen writes nothing
unfoldable pub slice_after : Column → Call → List ℕ
slice_after c (Speaks out) = written c out
slice_after c (Listens inbox) = inbox
slice_after c Asks = []

-- a call is handed nothing else
abbrev pub machine : Protocol → Machine Column Call
machine p =
    record {
      fresh_refusal = λ n m own bytes. refusal_of (fresh p n m own bytes).answer;
      fresh = λ n m own bytes. (fresh p n m own bytes).column;
      call = λ call. call;
      required = λ call. true;
      refusal = refusal_at;
      after = after;
      written = slice_after;
      told = λ c call m. record_in m (outcome c).reply (outcome c).bytes;
      told_grade = λ c call. (outcome c).grade;
      grade = λ c. c.grade;
    }

pub plain : (p : Protocol) → Plain (machine p)
plain p call = (refl, tt)
