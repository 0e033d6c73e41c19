-- Laws for the code: refusals of a state's bytes, and how long a run is.
use Rattle.std.proofs.Math.Path.{◌≡◌, refl}
use Rattle.std.proofs.Common.{sym, ◌∙◌, arith, eqb→eq}
use Rattle.std.specs.Prelude.{Bool, cond, List, ℕ, ◌≤◌, ◌<◌, T, eqb, ltb, length}
use Rattle.std.proofs.Math.Bool.{true, false}
use borrow.Author.Tests.{eq-eqb, ne_eqb, eqb-true, eqb-false, ltb-true}
use Rattle.lists.specs.Tests.{conj, passes}
use Rattle.sizes.specs.Sizes.{outside}
use Rattle.sizes.proofs.Laws.{inside}
use Rattle.protocols.specs.Protocols.{rounds_in, protocol_count, protocol_of}
use Rattle.protocols.proofs.Laws.{rounds_in_le}
use Rattle.messages.specs.Messages.{refusal, unless_refused}
use Rattle.messages.proofs.Laws.{refused_before, not_refused, if_refused}
use Rattle.agreement.specs.Calls.{or_else}
use Rattle.state_bytes.specs.Layout.{state_length, is_state}
use Rattle.column_bytes.specs.Calls.{rounds_of, state_refusal, numbered}

-- every state has its length
state_length_lem : (state : List ℕ) → is_state state ≡ true → length state ≡ state_length
unfolding is_state
state_length_lem state s = let t : T (is_state state) = passes _ s in eqb→eq (length state) state_length (search conj)

module _ (state : List ℕ) where
  pub state_accepted : is_state state ≡ true → state_refusal state ≡ 0
  unfolding state_refusal
  state_accepted s = rw (eq-eqb (length state) state_length (state_length_lem state s), s) refl

  -- bytes that are not refused are a state
  pub is_state_lem : state_refusal state ≡ 0 → is_state state ≡ true
  unfolding state_refusal
  is_state_lem = go (eqb (length state) state_length) (is_state state) refl
    where
      go : (a b : Bool) → is_state state ≡ b → ◌≡◌ {A = ℕ} (cond a (cond b 0 11) 4) 0 → is_state state ≡ true
      go true true e h = e
      go true false e h = absurd (omega arith)
      go false b e h = absurd (omega arith)

  -- bytes that are refused: their number comes first
  module _ (h : state_refusal state ≡ 0 → ⊥) where
    pub no_state : is_state state ≡ false
    no_state = go (is_state state) refl
      where
        go : (b : Bool) → is_state state ≡ b → b ≡ false
        go true e = absurd (h (state_accepted e))
        go false e = refl

    state_first : (w : ℕ) → numbered state w ≡ state_refusal state
    unfolding numbered or_else
    state_first w = rw (ne_eqb (state_refusal state) 0 h) refl

  -- of a state: the call's own number
  pub of_state : (w : ℕ) → state_refusal state ≡ 0 → numbered state w ≡ w
  unfolding numbered or_else
  of_state w s = rw s refl

  -- its slice has its length
  pub fits_state : (why : ℕ) → state_refusal state ≡ 0 → refusal why 1 state_length (length state) ≡ numbered state why
  fits_state why s = go (eqb why 0) refl ∙ sym (of_state why s)
    where
      len : length state ≡ state_length
      len = state_length_lem state (is_state_lem s)

      go : (b : Bool) → eqb why 0 ≡ b → refusal why 1 state_length (length state) ≡ why
      go true e = let z = eqb-true why 0 e in not_refused why 1 state_length (length state) z len ∙ sym z
      go false e = refused_before why 1 state_length (length state) (eqb-false why 0 e)

-- A REFUSED CALL: it answers k, which is to be w
abbrev pub Told : ℕ → ℕ → Type 0
Told k w = (k ≡ w) × (w ≡ 0 → ⊥)

module _ {k : ℕ} where
  -- for its bytes, and for a reason of its own
  pub told_bad : (state : List ℕ) (w : ℕ) → Told k (state_refusal state) → Told k (numbered state w)
  told_bad state w t = let e = state_first state t.1 w in (t.0 ∙ sym e, λ z. t.1 (sym e ∙ z))

  pub told_own : (state : List ℕ) (w : ℕ) → state_refusal state ≡ 0 → Told k w → Told k (numbered state w)
  told_own state w s t = let e = of_state state w s in (t.0 ∙ sym e, λ z. t.1 (sym e ∙ z))

  -- before the length of the slice that it writes to
  pub told_before : (w n width len : ℕ) → Told k w → Told k (refusal w n width len)
  told_before w n width len t = let e = refused_before w n width len t.1 in (t.0 ∙ sym e, λ z. t.1 (sym e ∙ z))

  -- the slice stays as it was
  pub told_left : (w : ℕ) (done before : List ℕ) → Told k w → (k ≡ w) × (before ≡ unless_refused w done before)
  told_left w done before t = (t.0, sym (if_refused w done before t.1))

-- HOW LONG A RUN IS

-- where it has a round, there are such a protocol and such a wall
pub runs_some : (runs n round : ℕ) → outside 1 (rounds_of runs n) round ≡ false → (runs < protocol_count) × (round ≤ 101)
unfolding rounds_of
runs_some runs n round = go (ltb runs protocol_count) (outside 4 31 n) refl refl
  where
    go : (a b : Bool) → ltb runs protocol_count ≡ a → outside 4 31 n ≡ b → outside 1 (cond a (cond b 0 (rounds_in (protocol_of runs 1) n)) 0) round ≡ false
        → (runs < protocol_count) × (round ≤ 101)
    go true true e f h = absurd (omega (arith, inside 1 0 round h))
    go true false e f h = (ltb-true runs protocol_count e, omega (arith, inside 1 _ round h, inside 4 31 n f, rounds_in_le (protocol_of runs 1) n))
    go false b e f h = absurd (omega (arith, inside 1 0 round h))
