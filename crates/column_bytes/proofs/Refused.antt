-- A refused call leaves every lent slice as it was: of each call, for every input.
use Rattle.std.specs.Prelude.{◌≡◌, refl, Bool, true, false, cond, List, ℕ}
use Rattle.std.proofs.Common.{◌∙◌}
use Rattle.protocols.specs.declared.Protocol.{Protocol}
use Rattle.messages.proofs.Laws.{if_refused}
use Rattle.agreement.specs.Calls.{written}
use Rattle.agreement.specs.Machine.{refusal_at}
use Rattle.agreement.proofs.Turns.{refused_slice}
use Rattle.state_bytes.specs.Layout.{decode, is_state}
use Rattle.column_bytes.specs.Calls.{fresh_answer, fresh_state, speak_answer, speak_state, speak_out, listen_answer, listen_state, outcome_answer, outcome_out}
use Rattle.column_bytes.proofs.Laws.{state_accepted, of_state}

pub fresh_refused : (p : Protocol) (n m own : ℕ) (bytes state : List ℕ) → (fresh_answer p n m own bytes state ≡ 0 → ⊥) → fresh_state p n m own bytes state ≡ state
unfolding fresh_state
fresh_refused p n m own bytes state h = if_refused _ _ state h

pub speak_refused : (state out : List ℕ) → (speak_answer state out ≡ 0 → ⊥) → (speak_state state out ≡ state) × (speak_out state out ≡ out)
unfolding speak_state speak_out speak_answer refusal_at
speak_refused state out h = (if_refused _ _ state h, go (is_state state) refl)
  where
    go : (b : Bool) → is_state state ≡ b → cond b (written (decode state) out) out ≡ out
    go true e = refused_slice (decode state) out (λ z. h (of_state state _ (state_accepted state e) ∙ z))
    go false e = refl

pub listen_refused : (state inbox : List ℕ) → (listen_answer state inbox ≡ 0 → ⊥) → listen_state state inbox ≡ state
unfolding listen_state
listen_refused state inbox h = if_refused _ _ state h

pub outcome_refused : (state out : List ℕ) → (outcome_answer state out ≡ 0 → ⊥) → outcome_out state out ≡ out
unfolding outcome_out
outcome_refused state out h = if_refused _ _ out h
