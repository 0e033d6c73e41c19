-- The definitions of the calls, in every protocol: for every input the refusal, the state after the call and the lent slice
-- after it. Document 01, "Refusals from the input" and "Refusals from the state".
use Rattle.std.specs.Prelude.{cond, List, [], ℕ, eqb, length, take, replicate}
use Rattle.std.proofs.Math.Option.{Option, none, some}
use Rattle.protocols.specs.declared.Protocol.{Protocol}
use Rattle.protocols.specs.declared.Protocol.TheVariants.{Agreement}
use Rattle.sizes.specs.Sizes.{refusal as refusal_of_sizes}
use Rattle.protocols.specs.Protocols.{values_in, beside, posts}
use Rattle.messages.specs.Messages.{refusal, unless_refused}
use Rattle.agreement.specs.declared.Outcome.{Outcome}
use Rattle.agreement.specs.declared.Outcome.TheVariants.{Nothing, Record}
use Rattle.agreement.specs.declared.Stage.{Stage}
use Rattle.agreement.specs.declared.Stage.TheVariants.{Speak, Listen, Ended}
use Rattle.agreement.specs.declared.Column.{Column}
use Rattle.agreement.specs.Answers.{Answer}
use Rattle.agreement.specs.Answers.{Done, Refused}
use Rattle.agreement.specs.Answers.{Answered}
use Rattle.agreement.specs.Replies.{Reply}
use Rattle.agreement.specs.Replies as R
use Rattle.agreement.specs.Replies.{Replied}
use Rattle.agreement.specs.Column.{fresh_column, fits}
use Rattle.agreement.specs.Parts.{with_stage}
use Rattle.agreement.specs.Rounds.{outgoing, listens}

-- document 01's number of an answer, 0 for none, and the answer of a number
unfoldable pub refusal_of : Answer → ℕ
refusal_of Done = 0
refusal_of (Refused why) = why

unfoldable pub answer_of : ℕ → Answer
answer_of why = cond (eqb why 0) Done (Refused why)

-- "A refusal gives its number and the state as it came"
unfoldable pub answered : ℕ → Column → Column → Answered
answered why done before = record { answer = answer_of why; column = cond (eqb why 0) done before }

-- FRESH

-- the refusal `why`, or where there is none the next
unfoldable pub or_else : ℕ → ℕ → ℕ
or_else why next = cond (eqb why 0) next why

-- 1, 2, 3 for the sizes, the own and the poster's number, 4 for a record not of m bytes
unfoldable pub fresh_refusal : Protocol → ℕ → ℕ → ℕ → ℕ → ℕ
fresh_refusal p n m own len = refusal (or_else (refusal_of_sizes n m own) (refusal_of_sizes n m (beside p))) 1 m len

-- what stands beside a refusal: a column of no wall, which every later call refuses with 11
unfoldable pub no_column : Column
no_column = fresh_column Agreement 0 0 0 []

unfoldable pub fresh : Protocol → ℕ → ℕ → ℕ → List ℕ → Answered
fresh p n m own bytes = answered (fresh_refusal p n m own (length bytes)) (fresh_column p n m own bytes) no_column

-- REFUSALS FROM THE STATE. "Order 11, 10, 7, 8, 9; all before 4."

-- the round of a stage; there is none after the end
unfoldable pub round_of : Stage → ℕ
round_of (Speak round) = round
round_of (Listen round) = round
round_of (Ended outcome) = 0

-- "10: to speak or listen after the end. 7: to speak when it should listen."
unfoldable pub when_speaking : Stage → ℕ
when_speaking (Speak round) = 0
when_speaking (Listen round) = 7
when_speaking (Ended outcome) = 10

-- "8: to listen when it should speak"
unfoldable pub when_listening : Stage → ℕ
when_listening (Speak round) = 8
when_listening (Listen round) = 0
when_listening (Ended outcome) = 10

-- "9: the outcome wanted before the end"
unfoldable pub when_asked : Stage → ℕ
when_asked (Speak round) = 9
when_asked (Listen round) = 9
when_asked (Ended outcome) = 0

-- 11 before the refusal that the stage gives
unfoldable pub in_state : Column → ℕ → ℕ
in_state c why = cond (fits c) why 11

-- and 4 after it, for a slice of `len` values that has not the length of the round's messages
unfoldable pub in_round : Column → ℕ → ℕ → ℕ
in_round c why len = refusal (in_state c why) c.n (values_in c.protocol c.n c.m (round_of c.stage)) len

-- SPEAK

unfoldable pub speak_refusal : Column → ℕ → ℕ
speak_refusal c len = in_round c (when_speaking c.stage) len

unfoldable pub speak : Column → List ℕ → Answered
speak c out = answered (speak_refusal c (length out)) (with_stage (Listen (round_of c.stage)) c) c

-- the lent slice after the call
unfoldable pub written : Column → List ℕ → List ℕ
written c out = unless_refused (speak_refusal c (length out)) (outgoing c (round_of c.stage)) out

-- LISTEN

unfoldable pub listen_refusal : Column → ℕ → ℕ
listen_refusal c len = in_round c (when_listening c.stage) len

unfoldable pub listen : Column → List ℕ → Answered
listen c inbox = answered (listen_refusal c (length inbox)) (listens (round_of c.stage) c inbox) c

-- THE OUTCOME

unfoldable pub outcome_refusal : Column → ℕ
outcome_refusal c = in_state c (when_asked c.stage)

-- what the column ended on; nothing before the end, where the call is refused
unfoldable pub ending : Stage → Outcome
ending (Speak round) = Nothing
ending (Listen round) = Nothing
ending (Ended outcome) = outcome

unfoldable pub reply_of : Column → Reply
reply_of c = cond (eqb (outcome_refusal c) 0) (R.Ended (ending c.stage)) (R.Refused (outcome_refusal c))

-- "32 record bytes, zeros past m or without a record"
unfoldable pub shown : Reply → List ℕ → List ℕ
shown (R.Ended Nothing) bytes = replicate 32 0
shown (R.Ended Record) bytes = bytes
shown (R.Refused why) bytes = replicate 32 0

-- of a posting: "at dispersal grade 2, grade 2 with what decoding gave, record or none; else grade 1 if decoding gave a record; else none at
-- grade 0"
unfoldable pub grade_in : ℕ → Reply → ℕ
grade_in grade (R.Ended Nothing) = cond (eqb grade 2) 2 0
grade_in grade (R.Ended Record) = cond (eqb grade 2) 2 1
grade_in grade (R.Refused why) = 0

-- the grade that goes with a reply: the dispersal grade, and of a posting "the outcome's grade"
unfoldable pub grade_shown : Protocol → ℕ → Reply → ℕ
grade_shown p grade reply = cond (posts p) (grade_in grade reply) grade

unfoldable pub outcome : Column → Replied
outcome c = record { reply = reply_of c; grade = grade_shown c.protocol c.grade (reply_of c); bytes = shown (reply_of c) c.bytes; column = c }

-- document 01's number of a reply, 0 for none
unfoldable pub refusal_in : Reply → ℕ
refusal_in (R.Ended outcome) = 0
refusal_in (R.Refused why) = why

-- and its value: none, or the record's m bytes
unfoldable pub record_in : ℕ → Reply → List ℕ → Option (List ℕ)
record_in m (R.Ended Nothing) bytes = none
record_in m (R.Ended Record) bytes = some (take m bytes)
record_in m (R.Refused why) bytes = none
