-- The definitions of a column's rounds: what it says to each column, and what it makes of what it hears. Document 01, "Rounds" and
-- "Posting by one column".
use Rattle.std.specs.Prelude.{Bool, cond, ◌&&◌, List, [], ◌∷◌, ℕ, ◌+◌, eqb, leb}
use Rattle.std.proofs.Math.Option.{Option, none, some}
use Rattle.lists.specs.Lists.{bit, rows_of}
use Rattle.protocols.specs.declared.Protocol.{Protocol}
use Rattle.sizes.specs.Sizes.{blocks}
use Rattle.messages.specs.Messages.{said, from, heard, heard_of_all}
use Rattle.king.specs.King.{proposal, settled, firm, word, crowned}
use Rattle.dispersal.specs.Dispersal.{exchange, agreements, agrees, first_report, reports, reported, second_report, grade}
use Rattle.dissemination.specs.Dissemination.{spoken, points, points_in, kept_points, record_of}
use Rattle.agreement.specs.declared.Outcome.TheVariants.{Nothing, Record}
use Rattle.agreement.specs.declared.Stage.{Stage}
use Rattle.agreement.specs.declared.Stage.TheVariants.{Speak, Ended}
use Rattle.agreement.specs.declared.Column.{Column}
use Rattle.protocols.specs.declared.Kind.{Kind}
use Rattle.protocols.specs.declared.Kind.TheVariants.{Exchange, FirstReport, SecondReport, Votes, Proposals, King, Points, KeptPoints, Post}
use Rattle.protocols.specs.Protocols.{kind_in, values_in, posts}
use Rattle.agreement.specs.Post.{posted}
use Rattle.agreement.specs.Parts.{with_stage, with_bytes, with_proposal, with_agreements, with_reports, with_grade, with_vote, with_kept}

-- THE VOTE OF A POSTING. "with the vote taken as 1 everywhere": its rounds are played with the vote 1, and the column's own stays as it is

-- the vote that a round reads, and the one that a column has after the second reports, where they give `vote`
unfoldable pub vote_in : Protocol → ℕ → ℕ
vote_in p vote = cond (posts p) 1 vote

unfoldable pub vote_after : Protocol → ℕ → ℕ → ℕ
vote_after p before vote = cond (posts p) before vote

-- SPEAKING

-- "With vote 1"
unfoldable pub votes_one : Column → Bool
votes_one c = eqb (vote_in c.protocol c.vote) 1

-- "With vote 1 and grade 1 or 2"
unfoldable pub spreads : Column → Bool
spreads c = votes_one c && leb 1 c.grade

-- what column c says to column j in a round of the kind
unfoldable pub message : Kind → Column → ℕ → List ℕ
message Exchange c j = exchange c.n c.m c.own c.bytes j
message FirstReport c j = first_report c.n (agrees c.agreements) ∷ []
message SecondReport c j = second_report c.n c.own (agrees c.agreements) (reported c.reports) ∷ []
message Votes c j = c.vote ∷ []
message Proposals c j = c.proposal ∷ []
message (King king) c j = word king c.own c.vote ∷ []
message Points c j = points c.n c.m (spreads c) c.bytes j
message KeptPoints c j = spoken (votes_one c) c.kept
message (Post s) c j = spoken (eqb c.own s) c.bytes

-- "one message to each column, itself included", "by column number, each as many values long as the round has"
unfoldable pub outgoing : Column → ℕ → List ℕ
outgoing c round = rows_of (λ j. said (message (kind_in c.protocol c.n round) c j)) (values_in c.protocol c.n c.m round) c.n

-- LISTENING

-- the one value of each column's message in a round of the kind; its own is what it would send itself
unfoldable pub received : Kind → Column → List ℕ → ℕ → ℕ
received kind c inbox = from (heard_of_all c.n c.own (message kind c c.own) 1 inbox 0)

-- the king's word
unfoldable pub king_said : ℕ → Column → List ℕ → ℕ
king_said king c inbox = heard c.own (message (King king) c c.own) 1 inbox king 0

-- the grade after the second reports
unfoldable pub graded : Column → List ℕ → ℕ
graded c inbox = grade c.n c.own (agrees c.agreements) (reported c.reports) (received SecondReport c inbox)

-- "The vote starts as 1 exactly at grade 2"
unfoldable pub first_vote : ℕ → ℕ
first_vote g = bit (eqb g 2)

-- the vote after the proposals
unfoldable pub resettled : Column → List ℕ → ℕ
resettled c inbox = settled c.n (received Proposals c inbox) c.vote

-- "Per block, decode the n points"; "Outcome: none if the vote is 0"
unfoldable pub outcome_of : Column → List ℕ → Option (List ℕ)
outcome_of c inbox = cond (votes_one c) (record_of c.n c.m (points_in c.own (message KeptPoints c c.own) (blocks c.n c.m) inbox)) none

-- "A column that ends on a record holds it in place of its own; one that ends on none keeps its own."
unfoldable pub ends_on : Option (List ℕ) → Column → Column
ends_on none c = with_stage (Ended Nothing) c
ends_on (some bytes) c = with_stage (Ended Record) (with_bytes bytes c)

-- what column c has become after it listened in a round of the kind; it goes on to the stage `next`, unless the round ends the run
unfoldable pub hears : Kind → Stage → Column → List ℕ → Column
hears Exchange next c inbox = with_stage next (with_agreements (agreements c.n c.m c.own c.bytes inbox) c)
hears FirstReport next c inbox = with_stage next (with_reports (reports c.n (received FirstReport c inbox)) c)
hears SecondReport next c inbox = with_stage next (with_grade (graded c inbox) (with_vote (vote_after c.protocol c.vote (first_vote (graded c inbox))) c.firm c))
hears Votes next c inbox = with_stage next (with_proposal (proposal c.n (received Votes c inbox)) c)
hears Proposals next c inbox = with_stage next (with_vote (resettled c inbox) (firm c.n (received Proposals c inbox) (resettled c inbox)) c)
hears (King king) next c inbox = with_stage next (with_vote (crowned c.firm c.vote (king_said king c inbox)) c.firm c)
hears Points next c inbox = with_stage next (with_kept (kept_points c.n c.m c.own (spreads c) c.bytes inbox) c)
hears KeptPoints next c inbox = ends_on (outcome_of c inbox) c
hears (Post s) next c inbox = with_stage next (with_bytes (posted s c inbox) c)

-- and in a round of the run, after which it is to speak in the next
unfoldable pub listens : ℕ → Column → List ℕ → Column
listens round c inbox = hears (kind_in c.protocol c.n round) (Speak (round + 1)) c inbox
