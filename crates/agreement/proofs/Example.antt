-- A RUN THAT MEETS THE PREMISES: document 01's worked sheet, as lists of calls. Four columns, records of one byte: columns 1 and 2 held 41,
-- column 3 held 42 (hexadecimal). Column 4 is unsound: it tells columns 1 and 2 that it held 41 as they did, sends its first report to both
-- and its second to column 1 alone, and column 3 gets nothing. Refused calls and calls for the outcome stand among the others.
use Rattle.std.specs.Prelude.{◌≡◌, refl, Bool, not, cond, List, [], ◌∷◌, ◌++◌, ℕ, zero, suc, ◌-◌, ◌*◌, ◌≤◌, ◌<◌, T, eqb, get_or, length}
use Rattle.std.proofs.Common.{sym, ap, ◌∙◌, append-nil, le_refl, arith, ne_eqb, T_not}
use Rattle.std.proofs.Math.Option.{some}
use Rattle.lists.specs.Lists.{count, all, Below, list_of, rows_of, in_row}
use Rattle.lists.specs.Tests.{is_false}
use Rattle.lists.specs.Entries.{length_list_of, get_d_list_of}
use Rattle.lists.specs.Rows.{length_rows_of, in_row_rows_of}
use Rattle.field.specs.Field.{blank}
use Rattle.block.specs.Block.{part, value}
use Rattle.protocols.specs.declared.Protocol.TheVariants.{Agreement}
use Rattle.sizes.specs.Sizes.{faults, degree, blocks, outside, refusal as refusal_of_sizes}
use Rattle.protocols.specs.Protocols.{rounds_in, values_in, beside, width, phase, phases_from, kinds, kind_in, posts}
use Rattle.messages.specs.Messages.{read_point, read_report, read_bit, said, from, to_all, refusal, unless_refused, heard, heard_from, heard_of_all, times}
use Rattle.messages.specs.Wall.{Sound, Delivered}
use Rattle.codeword.specs.Codeword.{point, values as values_at}
use Rattle.decoder.specs.Decoder.{decoded, found, seek, through, under, slopes, answer_of as decoded_as, polynomial_of}
use Rattle.king.specs.King.{bits, chosen, proposal, settled, firm, word, crowned}
use Rattle.dispersal.specs.Dispersal.{exchange, agrees_in, agrees_with, agreement_at, agreements, agrees, first_quorum, first_report, report_at, reports, reported, both, second_quorum, second_report, read_reports, grade}
use Rattle.dissemination.specs.Dissemination.{spoken, points_in, points, least, often, kept_point, kept_at, kept_points, point_at, block_of, there, coefficient, is_byte, is_block, byte_at, record_of}
use Rattle.agreement.specs.Column.{fresh_vote, brought, fresh_column, names_fit, stage_fits, byte_fits, flag_fits, point_fits, numbers_fit, arrays_fit, fits}
use Rattle.agreement.specs.Rounds.{vote_in, vote_after, listens, votes_one, spreads, message, outgoing, received, king_said, graded, first_vote, resettled, outcome_of, ends_on, hears}
use Rattle.agreement.specs.Calls.{refusal_of, answer_of, answered, or_else, fresh_refusal, fresh, round_of, when_speaking, when_listening, when_asked, in_state, in_round, speak_refusal, speak, written, listen_refusal, listen, outcome_refusal, ending, reply_of, shown, grade_shown, outcome, refusal_in, record_in}
use Rattle.machine.specs.Machine.{Call, Speaks, Listens, Asks}
use Rattle.machine.specs.Lists.{Item, leading, extra, final, after_leading, leading_calls, turns, is_asking, idle, allowed, wrote, made, Run, Answers, spoken as slices_of}
use Rattle.agreement.specs.Machine.{refusal_at, after, slice_after, machine}
use Rattle.machine.specs.Claim.{leaves, Demand}
use Rattle.agreement.proofs.Theorem.{third_demand}

-- column 4 is unsound
abbrev sound : ℕ → Bool
sound i = not (eqb i 4)

abbrev held : ℕ → List ℕ
held i = cond (eqb i 3) (66 ∷ []) (65 ∷ [])

-- of a table by number, from 1 on
abbrev row : {A : Type 0} → A → List A → ℕ → A
row z table i = get_or table (i - 1) z

-- WHAT THE COLUMNS SAY

-- what the sound columns 1, 2 and 3 say, to every column alike: a line for each round, of which the first three are dispersal, then three
-- of each king, columns 1 and 2, and the last two dissemination
abbrev said_by : ℕ → ℕ → List ℕ
said_by round j =
    row [] (row [] (
    ((65 ∷ 65 ∷ []) ∷ (65 ∷ 65 ∷ []) ∷ (66 ∷ 66 ∷ []) ∷ [])
    ∷ ((1 ∷ []) ∷ (1 ∷ []) ∷ (blank ∷ []) ∷ [])
    ∷ ((1 ∷ []) ∷ (1 ∷ []) ∷ (blank ∷ []) ∷ [])
    ∷ ((1 ∷ []) ∷ (0 ∷ []) ∷ (0 ∷ []) ∷ [])
    ∷ ((blank ∷ []) ∷ (blank ∷ []) ∷ (blank ∷ []) ∷ [])
    ∷ ((1 ∷ []) ∷ (blank ∷ []) ∷ (blank ∷ []) ∷ [])
    ∷ ((1 ∷ []) ∷ (1 ∷ []) ∷ (1 ∷ []) ∷ [])
    ∷ ((1 ∷ []) ∷ (1 ∷ []) ∷ (1 ∷ []) ∷ [])
    ∷ ((blank ∷ []) ∷ (1 ∷ []) ∷ (blank ∷ []) ∷ [])
    ∷ ((65 ∷ []) ∷ (65 ∷ []) ∷ (blank ∷ []) ∷ [])
    ∷ ((65 ∷ []) ∷ (65 ∷ []) ∷ (65 ∷ []) ∷ [])
    ∷ []
    ) round) j

-- what column 4 says to column i; nothing to column 3, and nothing after round 3
abbrev lie : ℕ → ℕ → List ℕ
lie round i = row [] (row [] (((65 ∷ 65 ∷ []) ∷ (1 ∷ []) ∷ (1 ∷ []) ∷ []) ∷ ((65 ∷ 65 ∷ []) ∷ (1 ∷ []) ∷ []) ∷ []) i) round

-- what column i gets from column j; at its own place anything, here sevens
abbrev gets : ℕ → ℕ → ℕ → List ℕ
gets round i j = cond (eqb j i) (7 ∷ 7 ∷ []) (cond (eqb j 4) (lie round i) (said_by round j))

abbrev inbox : ℕ → ℕ → List ℕ
inbox i round = rows_of (λ j. said (gets round i j)) (values_in Agreement 4 1 round) 4

-- what it hands to a call to speak: anything of the required length, here sevens
abbrev out : ℕ → ℕ → List ℕ
out i round = list_of (λ k. 7) (4 * values_in Agreement 4 1 round)

-- THE LISTS OF CALLS

-- rounds of calls, with others before each call to speak, others between it and the call to listen, and others behind the last round
unfoldable pub noisy : List (Item Call) → List (Item Call) → List (Item Call) → (ℕ → List ℕ) → (ℕ → List ℕ) → ℕ → ℕ → List (Item Call)
noisy before between behind outs inboxes round zero = behind
noisy before between behind outs inboxes round (suc left) =
    before ++ (leading (Speaks (outs round)) ∷ between ++ (leading (Listens (inboxes round)) ∷ noisy before between behind outs inboxes (suc round) left))

-- column 1 is asked too early (9), listens and speaks out of turn (8, 7), and is asked and spoken to after the end (10); column 2 speaks
-- and listens with slices that are too short (4); column 3 does nothing of the kind
abbrev lists : ℕ → List (Item Call)
lists i =
    row [] (
    noisy (extra Asks ∷ extra (Listens (1 ∷ 2 ∷ [])) ∷ []) (extra (Speaks []) ∷ extra Asks ∷ []) (extra Asks ∷ extra (Speaks (5 ∷ [])) ∷ extra Asks ∷ []) (out 1) (inbox 1) 1 11
    ∷ noisy (extra (Speaks (9 ∷ [])) ∷ []) (extra (Listens []) ∷ []) [] (out 2) (inbox 2) 1 11
    ∷ noisy [] [] [] (out 3) (inbox 3) 1 11
    ∷ []
    ) i

-- WHAT IS COMPUTED

-- what column j writes in the round after q rounds
abbrev slice : ℕ → ℕ → List ℕ
slice j q = to_all 4 (values_in Agreement 4 1 (suc q)) (said_by (suc q) j)

-- a sound column's list of calls
record Plays (i : ℕ) : Type 0 where
  calls_in_turn : leading_calls (λ call. call) (lists i) ≡ turns (out i) (inbox i) 1 (rounds_in Agreement 4)
  extras : T (allowed (machine Agreement) (made (machine Agreement) 4 1 held i) (lists i))
  wrote_slices : wrote (machine Agreement) (made (machine Agreement) 4 1 held i) (lists i) ≡ list_of (slice i) 11

record Computed : Type 0 where
  plays_1 : Plays 1
  plays_2 : Plays 2
  plays_3 : Plays 3
  -- each refusal from the state, where it stands
  too_early : refusal_at (made (machine Agreement) 4 1 held 1) Asks ≡ 9
  to_speak : refusal_at (made (machine Agreement) 4 1 held 1) (Listens (inbox 1 1)) ≡ 8
  to_listen : refusal_at (after (made (machine Agreement) 4 1 held 1) (Speaks (out 1 1))) (Speaks (out 1 1)) ≡ 7
  too_short : refusal_at (made (machine Agreement) 4 1 held 2) (Speaks (9 ∷ [])) ≡ 4
  after_the_end : refusal_at (final (machine Agreement) (made (machine Agreement) 4 1 held 1) (lists 1)) (Speaks (out 1 1)) ≡ 10
  -- "1 sound grade 2 .. 2 sound grade 1 .. 3 sound grade 0"
  leaves_2 : leaves (machine Agreement) 4 1 held lists 1 ≡ 2
  leaves_1 : leaves (machine Agreement) 4 1 held lists 2 ≡ 1
  leaves_0 : leaves (machine Agreement) 4 1 held lists 3 ≡ 0
  -- column 3 held another record and ends on 41
  ends_on_41 : Answers (machine Agreement) 1 (some (65 ∷ [])) (final (machine Agreement) (made (machine Agreement) 4 1 held 3) (lists 3)) Asks

computed : Computed
unfolding noisy to_all final after_leading leading_calls turns allowed wrote slices_of slice_after refusal_in record_in count all list_of rows_of part value faults degree blocks outside refusal_of_sizes read_point read_report read_bit said from refusal unless_refused heard heard_from heard_of_all times point values_at decoded found seek through under slopes decoded_as polynomial_of bits chosen proposal settled firm word crowned exchange agrees_in agrees_with agreement_at agreements agrees first_quorum first_report report_at reports reported both second_quorum second_report read_reports grade spoken points_in points least often kept_point kept_at kept_points point_at block_of there coefficient is_byte is_block byte_at record_of fresh_column stage_fits byte_fits flag_fits point_fits numbers_fit arrays_fit fits votes_one spreads message outgoing received king_said graded first_vote resettled outcome_of ends_on hears refusal_of answer_of answered fresh_refusal fresh round_of when_speaking when_listening when_asked in_state in_round speak_refusal speak written listen_refusal listen outcome_refusal ending reply_of shown outcome refusal_at after is_asking idle made rounds_in values_in beside names_fit kind_in vote_in vote_after listens or_else width phase phases_from kinds fresh_vote brought grade_shown posts
computed =
    record {
      plays_1 = record { calls_in_turn = refl; extras = tt; wrote_slices = refl };
      plays_2 = record { calls_in_turn = refl; extras = tt; wrote_slices = refl };
      plays_3 = record { calls_in_turn = refl; extras = tt; wrote_slices = refl };
      too_early = refl;
      to_speak = refl;
      to_listen = refl;
      too_short = refl;
      after_the_end = refl;
      leaves_2 = refl;
      leaves_1 = refl;
      leaves_0 = refl;
      ends_on_41 = (refl, refl);
    }

-- THE PREMISES

-- the sound columns are 1, 2 and 3
each : (P : ℕ → Type 0) → P 1 → P 2 → P 3 → (i : ℕ) → Sound 4 sound i → P i
each P a b c zero s = absurd (omega (arith, s.0))
each P a b c (suc zero) s = a
each P a b c (suc (suc zero)) s = b
each P a b c (suc (suc (suc zero))) s = c
each P a b c (suc (suc (suc (suc zero)))) s = absurd s.2
each P a b c (suc (suc (suc (suc (suc i))))) s = absurd (omega (arith, s.1))

plays : (i : ℕ) → Sound 4 sound i → Plays i
plays = each Plays computed.plays_1 computed.plays_2 computed.plays_3

-- where another sound column listens, what a sound column said is delivered
delivered : (r : ℕ) → 1 ≤ r → r ≤ rounds_in Agreement 4 → Delivered 4 sound (values_in Agreement 4 1 r) (λ j. get_or (wrote (machine Agreement) (made (machine Agreement) 4 1 held j) (lists j)) (r - 1) []) (λ i. inbox i r)
unfolding Delivered to_all rounds_in kinds phases_from phase faults
delivered r l u i j k si sj ne h =
    let first : r - 1 < 11 = omega (arith, eleven) in
    let round : suc (r - 1) ≡ r = omega arith in
    in_row_rows_of (λ j. said (gets r i j)) (values_in Agreement 4 1 r) 4 j k blank sj.0 sj.1 h
    ∙ rw (ne_eqb j i ne, is_false (eqb j 4) (λ t. T_not (eqb j 4) sj.2 t))
    (sym (ap (λ (s : List ℕ). in_row (values_in Agreement 4 1 r) s i k blank) (ap (λ (s : List (List ℕ)). get_or s (r - 1) []) (plays j sj).wrote_slices ∙ get_d_list_of (slice j) 11 (r - 1) [] first ∙ ap (λ (r : ℕ). to_all 4 (values_in Agreement 4 1 r) (said_by r j)) round)
    ∙ in_row_rows_of (λ i. said (said_by r j)) (values_in Agreement 4 1 r) 4 i k blank si.0 si.1 h))
  where
    eleven : rounds_in Agreement 4 ≡ 11
    eleven = refl

pub run : Run (machine Agreement) Agreement 4 1 sound held lists out inbox
unfolding count faults beside
run =
    record {
      wall = record { low = omega arith; high = omega arith; few = le_refl 1 };
      bytes_low = omega arith;
      bytes_high = omega arith;
      poster_low = omega arith;
      poster_high = omega arith;
      records = each (λ i. (length (held i) ≡ 1) × Below 256 (held i)) (refl, small 65 (omega arith)) (refl, small 65 (omega arith)) (refl, small 66 (omega arith));
      calls_in_turn = λ i si. (plays i si).calls_in_turn;
      out_length = λ i r si l u. length_list_of (λ k. 7) (4 * values_in Agreement 4 1 r);
      inbox_length = λ i r si l u. length_rows_of (λ j. said (gets r i j)) (values_in Agreement 4 1 r) 4;
      extras = λ i si. (plays i si).extras;
      mail = delivered;
    }
  where
    small : (v : ℕ) → v < 256 → Below 256 (v ∷ [])
    small v h zero = h
    small v h (suc p) = omega arith

-- so the theorem speaks of it: the wall's outcome is 41
pub demand : Demand (machine Agreement) 4 1 sound held lists
demand = third_demand 4 1 sound held lists out inbox run

pub decided_41 : demand.agreed.decided ≡ some (65 ∷ [])
unfolding leading_calls
decided_41 =
    sym (demand.agreed.same_outcome 3 three) ∙ sym (demand.outputs 3 three (lists 3) [] (sym (append-nil (lists 3))) refl Asks refl tt).1 ∙ computed.ends_on_41.1
  where
    three : Sound 4 sound 3
    three = (omega arith, omega arith, tt)
