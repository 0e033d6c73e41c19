-- The answers of the calls, refused or not, and what is known where a call is not refused.
use Rattle.std.proofs.Math.Path.{◌≡◌, refl, sym, ap}
use Rattle.std.specs.Prelude.{Bool, not, List, ℕ, ◌+◌, ◌≤◌, length, Result, Ok, Err, Option, Some, None}
use Rattle.std.specs.Result.{IsErrAnd}
use Rattle.std.proofs.Math.Bool.{true, false, cond}
use Rattle.std.proofs.Common.{◌∙◌, arith}
use borrow.Author.Tests.{ne_eqb, eqb-true, not-true}
use Rattle.std.proofs.Math.Dec.{T, eqb, eqb→eq}
use Rattle.lists.specs.Tests.{and_left, and_right, is_true, passes}
use Rattle.protocols.specs.declared.Protocol.{Protocol}
use Rattle.protocols.specs.declared.Kind.{Kind}
use Rattle.sizes.specs.Sizes.{outside, refusal}
use Rattle.sizes.specs.declared.numbers.Refusal.{Refusal}
use Rattle.sizes.specs.Refusals.{number, number_in}
use Rattle.sizes.proofs.Laws.{inside, accepted}
use Rattle.sizes.proofs.Refusals.{some, handed_on}
use Rattle.protocols.specs.Protocols.{rounds_in, values_in, kind_in, width}
use Rattle.protocols.proofs.Laws.{rounds_in_le, values_are}
use Rattle.messages.specs.Messages.{unless_refused}
use Rattle.messages.proofs.Laws.{refused_before, if_refused}
use Rattle.agreement.specs.declared.Stage.{Stage}
use Rattle.agreement.specs.declared.Stage.TheVariants.{Speak, Listen, Ended}
use Rattle.agreement.specs.declared.Column.{Column}
use Rattle.agreement.specs.Answers.{answered_in}
use Rattle.agreement.specs.Replies as R
use Rattle.agreement.specs.Replies.{reply_in, bytes_in, replied_in}
use Rattle.agreement.specs.Column.{stage_fits, names_fit, numbers_fit, fits}
use Rattle.agreement.specs.Parts.{with_stage}
use Rattle.agreement.specs.Rounds.{outgoing, listens}
use Rattle.agreement.specs.Calls.{answered, round_of, when_speaking, when_listening, in_state, in_round, speak_refusal, speak, written, listen_refusal, listen, outcome_refusal, ending, reply_of, shown, grade_shown, outcome, refusal_in}
use Rattle.agreement.specs.Entries.{entry_asked, sound_entry}
use Rattle.rounds.specs.Rounds.{to_columns, round_refusal, heard_in}
use Rattle.rounds.specs.Ready.{answered_refused}

-- THE OUTCOME

-- the number in a reply is that of the call's refusal
number_of_reply : (r : Result (Option (List ℕ)) Refusal) → refusal_in (reply_in r) ≡ number_in r
unfolding refusal_in
number_of_reply (Ok None) = refl
number_of_reply (Ok (Some bytes)) = refl
number_of_reply (Err why) = refl

module _ (c : Column) where
  refusal_of_reply : refusal_in (reply_of c) ≡ outcome_refusal c
  unfolding reply_of refusal_in
  refusal_of_reply = go (eqb (outcome_refusal c) 0) refl
    where
      go : (b : Bool) → eqb (outcome_refusal c) 0 ≡ b → refusal_in (cond b (R.Ended (ending c.stage)) (R.Refused (outcome_refusal c))) ≡ outcome_refusal c
      go true e = sym (eqb-true (outcome_refusal c) 0 e)
      go false e = refl

  -- a call's answer is that to a call for the outcome
  abbrev pub Asked : Result (Option (List ℕ)) Refusal → Type 0
  Asked r = (reply_in r ≡ (outcome c).reply) × (bytes_in r ≡ (outcome c).bytes)

  pub told_refused : (why : Refusal) (r : Result (Option (List ℕ)) Refusal) → IsErrAnd r (λ y. y ≡ why) → number why ≡ outcome_refusal c → Asked r
  unfolding outcome reply_of shown
  told_refused why r h e = rw (handed_on why r h, ← e, ne_eqb (number why) 0 (some why)) (refl, refl)

  pub told_done : 0 ≡ outcome_refusal c → (o : Option (List ℕ)) → reply_in (Ok o) ≡ R.Ended (ending c.stage) → bytes_in (Ok o) ≡ shown (R.Ended (ending c.stage)) c.bytes
      → Asked (Ok o)
  unfolding outcome reply_of
  told_done e o f g = rw (← e) (f, g)

  -- its refusal is the call's, and the entry that is made of it the column's
  pub told_number : (r : Result (Option (List ℕ)) Refusal) → Asked r → number_in r ≡ outcome_refusal c
  unfolding outcome
  told_number r t = sym (number_of_reply r) ∙ ap refusal_in t.0 ∙ refusal_of_reply

  pub told_entry : (r : Result (Option (List ℕ)) Refusal) → Asked r
      → entry_asked (replied_in r (grade_shown c.protocol c.grade (reply_in r)) c) ≡ sound_entry c
  unfolding outcome sound_entry
  told_entry r t = rw (t.0, t.1) refl

-- NOT REFUSED

-- the round of a stage in which a column speaks or listens is one of the run's, which has `last`
round_in : (last round : ℕ) → T (not (outside 1 last round)) → (1 ≤ round) × (round ≤ last)
round_in last round h = inside 1 last round (not-true (outside 1 last round) (is_true (not (outside 1 last round)) h))

speaking_in : (last : ℕ) (stage : Stage) → T (stage_fits last stage) → when_speaking stage ≡ 0 → (1 ≤ round_of stage) × (round_of stage ≤ last)
unfolding stage_fits when_speaking round_of
speaking_in last (Speak round) h e = round_in last round h
speaking_in last (Listen round) h e = absurd (omega arith)
speaking_in last (Ended outcome) h e = absurd (omega arith)

listening_in : (last : ℕ) (stage : Stage) → T (stage_fits last stage) → when_listening stage ≡ 0 → (1 ≤ round_of stage) × (round_of stage ≤ last)
unfolding stage_fits when_listening round_of
listening_in last (Speak round) h e = absurd (omega arith)
listening_in last (Listen round) h e = round_in last round h
listening_in last (Ended outcome) h e = absurd (omega arith)

ruleset conjuncts = (and_left, and_right)

module _ (c : Column) where
  abbrev p : Protocol
  p = c.protocol

  sizes_fit : T (fits c) → refusal c.n c.m c.own ≡ 0
  unfolding fits numbers_fit names_fit
  sizes_fit h = let e : T (eqb (refusal c.n c.m c.own) 0) = search conjuncts depth 12 in eqb→eq (refusal c.n c.m c.own) 0 e

  stage_fits_lem : T (fits c) → T (stage_fits (rounds_in p c.n) c.stage)
  unfolding fits numbers_fit
  stage_fits_lem h = search conjuncts depth 12

  -- neither 11 nor the stage's refusal
  state_accepted : (why : ℕ) → in_state c why ≡ 0 → T (fits c) × (why ≡ 0)
  unfolding in_state
  state_accepted why = go (fits c) refl
    where
      go : (b : Bool) → fits c ≡ b → ◌≡◌ {A = ℕ} (cond b why 11) 0 → T (fits c) × (why ≡ 0)
      go true e h = (passes (fits c) e, h)
      go false e h = absurd (omega arith)

  -- the round in which it is to speak or to listen, and the round's kind
  abbrev round : ℕ
  round = round_of c.stage

  abbrev kind : Kind
  kind = kind_in p c.n round

  -- where the state refuses nothing, the round does, by the slice's length
  pub record Turn (why : ℕ) : Type 0 where
    pub values : values_in p c.n c.m round ≡ width c.n c.m kind
    pub by_length : (len : ℕ) → in_round c why len ≡ round_refusal kind c len
    pub few : round ≤ 254

  turn : (why : ℕ) → (T (stage_fits (rounds_in p c.n) c.stage) → why ≡ 0 → (1 ≤ round) × (round ≤ rounds_in p c.n)) → in_state c why ≡ 0 → Turn why
  unfolding in_round round_refusal
  turn why within e =
      let s = state_accepted why e in
      let w = within (stage_fits_lem s.0) s.1 in
      let sizes : refusal c.n c.m c.own ≡ 0 = sizes_fit s.0 in
      let values : values_in p c.n c.m round ≡ width c.n c.m kind = values_are p c.n c.m round w.0 w.1 in
      record {
        values = values;
        by_length = λ len. rw (e, sizes, values) refl;
        few = omega (arith, w.1, rounds_in_le p c.n, (accepted c.n c.m c.own sizes).range.columns_high);
      }

  pub may_speak : in_state c (when_speaking c.stage) ≡ 0 → Turn (when_speaking c.stage)
  may_speak = turn (when_speaking c.stage) (speaking_in (rounds_in p c.n) c.stage)

  pub may_listen : in_state c (when_listening c.stage) ≡ 0 → Turn (when_listening c.stage)
  may_listen = turn (when_listening c.stage) (listening_in (rounds_in p c.n) c.stage)

  -- THE ANSWERS TO SPEAK AND TO LISTEN, where the state is refused and where it is not

  module _ (why : Refusal) (r : Result Column Refusal) (h : IsErrAnd r (λ y. y ≡ why)) where
    -- the refusal by the state stands, whatever the slice
    before_slice : (w len : ℕ) → number why ≡ in_state c w → number why ≡ in_round c w len
    unfolding in_round
    before_slice w len e = e ∙ sym (refused_before (in_state c w) c.n (values_in c.protocol c.n c.m round) len (λ z. some why (e ∙ z)))

    pub listen_refused : (inbox : List ℕ) → number why ≡ in_state c (when_listening c.stage) → answered_in r c ≡ listen c inbox
    unfolding listen listen_refusal
    listen_refused inbox e = answered_refused c why r h (before_slice (when_listening c.stage) (length inbox) e) (listens round c inbox)

    pub speak_refused : (out : List ℕ) → number why ≡ in_state c (when_speaking c.stage) → (answered_in r c ≡ speak c out) × (out ≡ written c out)
    unfolding speak speak_refusal written
    speak_refused out e =
        let f = before_slice (when_speaking c.stage) (length out) e in
        (answered_refused c why r h f (with_stage (Listen round) c), sym (if_refused (in_round c (when_speaking c.stage) (length out)) (outgoing c round) out (λ z. some why (f ∙ z))))

  pub listen_heard : (inbox : List ℕ) → in_state c (when_listening c.stage) ≡ 0 → heard_in kind (Speak (round + 1)) c inbox ≡ listen c inbox
  unfolding listen listen_refusal heard_in listens
  listen_heard inbox e = rw ((may_listen e).by_length (length inbox)) refl

  pub speak_said : (out : List ℕ) → in_state c (when_speaking c.stage) ≡ 0
      → (answered (round_refusal kind c (length out)) (with_stage (Listen round) c) c ≡ speak c out)
      × (unless_refused (round_refusal kind c (length out)) (to_columns kind c) out ≡ written c out)
  unfolding speak speak_refusal written to_columns outgoing
  speak_said out e = let t = may_speak e in rw (t.by_length (length out), t.values) (refl, refl)
