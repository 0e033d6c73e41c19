-- One call: what is refused changes nothing, and what is in turn is not refused.
use Rattle.std.specs.Prelude.{◌≡◌, Bool, true, false, List, ℕ, ◌*◌, T, eqb, length}
use Rattle.std.proofs.Math.Path.{refl, ap}
use Rattle.std.proofs.Common.{sym, ◌∙◌, ne_eqb, eqb-true}
use Rattle.std.proofs.Math.Bool.{cond}
use Rattle.std.proofs.Math.Dec.{T_not}
use Rattle.lists.specs.Tests.{is_true, eq→eqb}
use Rattle.protocols.specs.declared.Protocol.{Protocol}
use Rattle.sizes.specs.Sizes.{outside, refusal as refusal_of_sizes}
use Rattle.protocols.specs.Protocols.{values_in}
use Rattle.messages.specs.Messages.{refusal}
use Rattle.messages.proofs.Laws.{not_refused, if_refused, if_done}
use Rattle.agreement.specs.declared.Stage.{Stage}
use Rattle.agreement.specs.declared.Stage.TheVariants.{Speak, Listen}
use Rattle.agreement.specs.declared.Column.{Column}
use Rattle.agreement.specs.Answers.{Done, Refused}
use Rattle.agreement.specs.Column.{fresh_column, names_fit, numbers_fit, fits}
use Rattle.agreement.specs.Parts.{with_stage}
use Rattle.agreement.specs.Rounds.{outgoing, listens}
use Rattle.agreement.specs.Calls.{refusal_of, answer_of, answered, no_column, round_of, when_speaking, when_listening, in_state, in_round, speak_refusal, speak, written, listen_refusal, listen, outcome_refusal, reply_of, outcome, refusal_in}
use Rattle.machine.specs.Machine.{Call, Speaks, Listens, Asks}
use Rattle.machine.specs.Lists.{is_asking, idle}
use Rattle.agreement.specs.Machine.{refusal_at, after, machine}

-- A CALL THAT IS REFUSED OR NOT

pub answer_is : (why : ℕ) → refusal_of (answer_of why) ≡ why
unfolding refusal_of answer_of
answer_is why = go (eqb why 0) refl
  where
    go : (b : Bool) → eqb why 0 ≡ b → refusal_of (cond b Done (Refused why)) ≡ why
    go true e = sym (eqb-true why 0 e)
    go false e = refl

-- "A refusal gives .. the state as it came; no lent slice is written."

refused_keeps : (why : ℕ) (done before : Column) → (refusal_of (answer_of why) ≡ 0 → ⊥) → cond (eqb why 0) done before ≡ before
refused_keeps why done before h = rw (ne_eqb why 0 (λ e. h (answer_is why ∙ e)))

module _ (c : Column) where
  pub refused_state : (call : Call) → (refusal_at c call ≡ 0 → ⊥) → after c call ≡ c
  unfolding refusal_at after speak listen outcome answered
  refused_state (Speaks out) h = refused_keeps (speak_refusal c (length out)) (with_stage (Listen (round_of c.stage)) c) c h
  refused_state (Listens inbox) h =
      refused_keeps (listen_refusal c (length inbox)) (listens (round_of c.stage) c inbox) c h
  refused_state Asks h = refl

  pub refused_slice : (out : List ℕ) → (refusal_at c (Speaks out) ≡ 0 → ⊥) → written c out ≡ out
  unfolding refusal_at speak answered written
  refused_slice out h = if_refused (speak_refusal c (length out)) (outgoing c (round_of c.stage)) out (λ e. h (answer_is (speak_refusal c (length out)) ∙ e))

  -- a call for the outcome, or one that is refused
  pub extra_keeps : (p : Protocol) (call : Call) → T (idle (machine p) c call) → after c call ≡ c
  unfolding idle is_asking after outcome
  extra_keeps p (Speaks out) h = refused_state (Speaks out) (λ e. T_not (eqb (refusal_at c (Speaks out)) 0) h (eq→eqb (refusal_at c (Speaks out)) 0 e))
  extra_keeps p (Listens inbox) h = refused_state (Listens inbox) (λ e. T_not (eqb (refusal_at c (Listens inbox)) 0) h (eq→eqb (refusal_at c (Listens inbox)) 0 e))
  extra_keeps p Asks h = refl

-- what a refused call would have done plays no part
pub refused_alike : (why : ℕ) (done other before : Column) → (why ≡ 0 → ⊥) → answered why done before ≡ answered why other before
unfolding answered
refused_alike why done other before h = rw (ne_eqb why 0 h) refl

-- what stands beside a refused call to make a column: every later call refuses it with 11
pub no_column_lem : (call : Call) → refusal_at no_column call ≡ 11
unfolding refusal_at speak listen outcome answered refusal_of answer_of refusal_in reply_of speak_refusal listen_refusal outcome_refusal in_round in_state refusal no_column fresh_column fits numbers_fit names_fit refusal_of_sizes outside
no_column_lem (Speaks out) = refl
no_column_lem (Listens inbox) = refl
no_column_lem Asks = refl

-- CALLS IN TURN

module _ (c : Column) (round : ℕ) (h : T (fits c)) where
  -- the refusal of a call that is in turn, with a slice of the required length
  calls_in_turn : (when : Stage → ℕ) (stage : Stage) (len : ℕ) → c.stage ≡ stage → when stage ≡ 0 → len ≡ c.n * values_in c.protocol c.n c.m (round_of stage) → in_round c (when c.stage) len ≡ 0
  unfolding in_round in_state
  calls_in_turn when stage len e z l =
      ap (λ (s : Stage). refusal (cond (fits c) (when s) 11) c.n (values_in c.protocol c.n c.m (round_of s)) len) e
      ∙ not_refused (cond (fits c) (when stage) 11) c.n (values_in c.protocol c.n c.m (round_of stage)) len (rw (is_true (fits c) h, z) refl) l

  -- to speak
  module _ (out : List ℕ) (e : c.stage ≡ Speak round) (l : length out ≡ c.n * values_in c.protocol c.n c.m round) where
    may_speak : speak_refusal c (length out) ≡ 0
    unfolding speak_refusal when_speaking round_of
    may_speak = calls_in_turn when_speaking (Speak round) (length out) e refl l

    pub spoke : (refusal_at c (Speaks out) ≡ 0) × (after c (Speaks out) ≡ with_stage (Listen round) c) × (written c out ≡ outgoing c round)
    unfolding refusal_at after speak answered written round_of
    spoke = (
      answer_is (speak_refusal c (length out)) ∙ may_speak,
      ap (λ (why : ℕ). cond (eqb why 0) (with_stage (Listen (round_of c.stage)) c) c) may_speak ∙ ap (λ (s : Stage). with_stage (Listen (round_of s)) c) e,
      if_done (speak_refusal c (length out)) (outgoing c (round_of c.stage)) out may_speak ∙ ap (λ (s : Stage). outgoing c (round_of s)) e,
    )

  -- to listen
  module _ (inbox : List ℕ) (e : c.stage ≡ Listen round) (l : length inbox ≡ c.n * values_in c.protocol c.n c.m round) where
    may_listen : listen_refusal c (length inbox) ≡ 0
    unfolding listen_refusal when_listening round_of
    may_listen = calls_in_turn when_listening (Listen round) (length inbox) e refl l

    pub listened : (refusal_at c (Listens inbox) ≡ 0) × (after c (Listens inbox) ≡ listens round c inbox)
    unfolding refusal_at after listen answered round_of
    listened = (
      answer_is (listen_refusal c (length inbox)) ∙ may_listen,
      ap (λ (why : ℕ). cond (eqb why 0) (listens (round_of c.stage) c inbox) c) may_listen
          ∙ ap (λ (s : Stage). listens (round_of s) c inbox) e,
    )
