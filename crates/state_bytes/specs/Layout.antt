-- The definitions of a column's state as bytes, part by part. A number of 16 bits is two bytes, low byte first; a flag is 0 or 1.
use Rattle.std.specs.Prelude.{Bool, true, false, cond, ◌&&◌, ◌||◌, List, [], ◌∷◌, ◌++◌, ℕ, ◌+◌, ◌*◌, ◌%◌, ◌/◌, eqb, ltb, length, get_or}
use Rattle.lists.specs.Lists.{bit, all, list_of}
use Rattle.protocols.specs.declared.Protocol.{Protocol}
use Rattle.protocols.specs.Protocols.{beside, posts, protocol_count, number_of, protocol_of}
use Rattle.messages.specs.Messages.{word}
use Rattle.agreement.specs.declared.Outcome.TheVariants.{Nothing, Record}
use Rattle.agreement.specs.declared.Stage.{Stage}
use Rattle.agreement.specs.declared.Stage.TheVariants.{Speak, Listen, Ended}
use Rattle.agreement.specs.declared.Column.{Column}
use Rattle.agreement.specs.Calls.{round_of}

-- THE PARTS

pub data Part : Type 0 where
  Version Runs Poster N M Own StageKind Round Grade Vote Firm Proposal Bytes Agreements Reports Kept : Part
  deriving Discrete as same_part

-- in the order in which they lie, each with its length. The version of this layout is 2; the poster of an agreement is 0; the round after the end is 0.
-- The record has 32 places. There is a flag for each of 31 columns, and a point of two bytes for each of 32 blocks
abbrev pub parts : List (Part × ℕ)
parts =
    (Version, 1) ∷ (Runs, 1) ∷ (Poster, 1) ∷ (N, 1) ∷ (M, 1) ∷ (Own, 1) ∷ (StageKind, 1) ∷ (Round, 1) ∷ (Grade, 1) ∷ (Vote, 1) ∷ (Firm, 1) ∷ (Proposal, 2)
    ∷ (Bytes, 32) ∷ (Agreements, 31) ∷ (Reports, 31) ∷ (Kept, 64) ∷ []

abbrev pub if_same : {A : Type 0} → Dec A → ℕ → ℕ → ℕ
if_same (yes e) a b = a
if_same (no e) a b = b

-- each part starts where the one before it ends
abbrev pub start_in : List (Part × ℕ) → Part → ℕ
start_in [] k = 0
start_in (p ∷ ps) k = if_same (same_part p.0 k) 0 (p.1 + start_in ps k)

abbrev pub length_in : List (Part × ℕ) → Part → ℕ
length_in [] k = 0
length_in (p ∷ ps) k = if_same (same_part p.0 k) p.1 (length_in ps k)

abbrev pub length_all : List (Part × ℕ) → ℕ
length_all [] = 0
length_all (p ∷ ps) = p.1 + length_all ps

abbrev pub offset : Part → ℕ
offset k = start_in parts k

abbrev pub length_of : Part → ℕ
length_of k = length_in parts k

abbrev pub state_length : ℕ
state_length = length_all parts

-- which layout this is
abbrev pub version : ℕ
version = 2

-- WRITTEN

-- the poster's number, 0 where nobody posts
unfoldable pub poster_byte : Protocol → ℕ
poster_byte p = cond (posts p) (beside p) 0

-- to speak, to listen, ended on none, ended on a record
unfoldable pub stage_byte : Stage → ℕ
stage_byte (Speak round) = 0
stage_byte (Listen round) = 1
stage_byte (Ended Nothing) = 2
stage_byte (Ended Record) = 3

-- a half of a number of 16 bits: 0 is the low byte, 1 the high one
unfoldable pub half : ℕ → ℕ → ℕ
half v r = cond (eqb r 0) (v % 256) (v / 256)

-- the flag of column i + 1, and byte q of the kept points
unfoldable pub flag_byte : List Bool → ℕ → ℕ
flag_byte flags i = bit (get_or flags i false)

unfoldable pub point_byte : List ℕ → ℕ → ℕ
point_byte kept q = half (get_or kept (q / 2) 0) (q % 2)

-- each part of the state of a column
unfoldable pub part : Column → Part → List ℕ
part c Version = version ∷ []
part c Runs = number_of c.protocol ∷ []
part c Poster = poster_byte c.protocol ∷ []
part c N = c.n ∷ []
part c M = c.m ∷ []
part c Own = c.own ∷ []
part c StageKind = stage_byte c.stage ∷ []
part c Round = round_of c.stage ∷ []
part c Grade = c.grade ∷ []
part c Vote = c.vote ∷ []
part c Firm = bit c.firm ∷ []
part c Proposal = half c.proposal 0 ∷ half c.proposal 1 ∷ []
part c Bytes = c.bytes
part c Agreements = list_of (flag_byte c.agreements) (length_of Agreements)
part c Reports = list_of (flag_byte c.reports) (length_of Reports)
part c Kept = list_of (point_byte c.kept) (length_of Kept)

-- one after the other
unfoldable pub joined : (Part → List ℕ) → List (Part × ℕ) → List ℕ
joined f [] = []
joined f (p ∷ ps) = f p.0 ++ joined f ps

unfoldable pub encode : Column → List ℕ
encode c = joined (part c) parts

-- READ

-- what stands from place `at` on: byte, flag and number i
unfoldable pub byte_from : List ℕ → ℕ → ℕ → ℕ
byte_from state at i = get_or state (at + i) 0

unfoldable pub flag_from : List ℕ → ℕ → ℕ → Bool
flag_from state at i = eqb (get_or state (at + i) 0) 1

unfoldable pub word_from : List ℕ → ℕ → ℕ → ℕ
word_from state at i = word state (at + 2 * i)

-- the number that a part of one byte is
abbrev pub number : List ℕ → Part → ℕ
number state k = get_or state (offset k) 0

unfoldable pub stage_of : ℕ → ℕ → Stage
stage_of stage round =
    cond (eqb stage 0) (Speak round) (cond (eqb stage 1) (Listen round) (cond (eqb stage 2) (Ended Nothing) (Ended Record)))

unfoldable pub column_of : List ℕ → Column
column_of state =
    record {
      protocol = protocol_of (number state Runs) (number state Poster);
      n = number state N;
      m = number state M;
      own = number state Own;
      bytes = list_of (byte_from state (offset Bytes)) (length_of Bytes);
      proposal = word state (offset Proposal);
      stage = stage_of (number state StageKind) (number state Round);
      agreements = list_of (flag_from state (offset Agreements)) 31;
      reports = list_of (flag_from state (offset Reports)) 31;
      grade = number state Grade;
      vote = number state Vote;
      firm = eqb (number state Firm) 1;
      kept = list_of (word_from state (offset Kept)) 32;
    }

-- a state's bytes of more or of fewer, with zeros past the end
unfoldable pub whole : List ℕ → List ℕ
whole state = list_of (λ i. get_or state i 0) state_length

unfoldable pub decode : List ℕ → Column
decode state = column_of (whole state)

-- WHICH BYTES ARE A STATE. One that is out of its ranges is one too: the call that it is handed to refuses it

-- where nobody posts, the poster's number is 0
unfoldable pub is_protocol : ℕ → ℕ → Bool
is_protocol runs poster = ltb runs protocol_count && (posts (protocol_of runs poster) || eqb poster 0)

-- there is no round after the end
unfoldable pub is_stage : ℕ → ℕ → Bool
is_stage stage round = cond (ltb stage 2) true (ltb stage 4 && eqb round 0)

-- version, protocol, stage and firmness; of the other numbers every byte is one
unfoldable pub are_numbers : List ℕ → Bool
are_numbers state =
    eqb (number state Version) version && is_protocol (number state Runs) (number state Poster) && is_stage (number state StageKind) (number state Round) && ltb (number state Firm) 2

-- agreements and reports lie behind each other
unfoldable pub is_flag : List ℕ → ℕ → Bool
is_flag state i = ltb (get_or state (offset Agreements + i) 0) 2

abbrev pub flags : ℕ
flags = length_of Agreements + length_of Reports

unfoldable pub is_state : List ℕ → Bool
is_state state = eqb (length state) state_length && are_numbers state && all (is_flag state) flags
