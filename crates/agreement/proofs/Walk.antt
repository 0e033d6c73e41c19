-- Calls in turn come to the course of their rounds.
use Rattle.std.specs.Prelude.{◌≡◌, ◌&&◌, eqb, length, get_or}
use Rattle.std.proofs.Math.Path.{refl, ap, ap₂, subst}
use Rattle.std.proofs.Common.{sym, ◌∙◌, arith}
use mathlib.Core.List.{List, [], ◌∷◌}
use Prim.Native.Nat.{ℕ, zero, suc, ◌+◌, ◌*◌, ◌≤◌, ◌<◌}
use Rattle.std.proofs.Math.Dec.{T}
use Rattle.lists.specs.Tests.{and_both, eq→eqb}
use Rattle.protocols.specs.declared.Protocol.{Protocol}
use Rattle.sizes.specs.Sizes.{refusal as refusal_of_sizes}
use Rattle.protocols.specs.Protocols.{rounds_in, values_in, beside, kind_in}
use Rattle.agreement.specs.declared.Stage.TheVariants.{Speak}
use Rattle.agreement.specs.declared.Column.{Column}
use Rattle.agreement.specs.Rounds.{outgoing, listens, hears}
use Rattle.agreement.specs.Calls.{written}
use Rattle.machine.specs.Machine.{Call, Speaks, Listens}
use Rattle.machine.specs.Lists.{Item, leading, final, after_leading, all_leading, turns, none_refused, wrote, spoken}
use Rattle.agreement.specs.Machine.{refusal_at, after, slice_after, machine}
use Rattle.agreement.proofs.Course.{course, listening, course_is, to_speak, listening_fits, course_fits}
use Rattle.agreement.proofs.Turns.{spoke, listened}

-- column `own` of n with the record `bytes`, which speaks into the slices `out` and listens to `inbox`, round by round: its sizes and its slices
-- are as required
pub record Ready (p : Protocol) (n m own : ℕ) (bytes : List ℕ) (inbox out : ℕ → List ℕ) : Type 0 where
  pub accepted : refusal_of_sizes n m own ≡ 0
  pub poster : refusal_of_sizes n m (beside p) ≡ 0
  pub full : length bytes ≡ m
  pub out_length : (r : ℕ) → 1 ≤ r → r ≤ rounds_in p n → length (out r) ≡ n * values_in p n m r
  pub inbox_length : (r : ℕ) → 1 ≤ r → r ≤ rounds_in p n → length (inbox r) ≡ n * values_in p n m r

module _ (p : Protocol) (n m own : ℕ) (bytes : List ℕ) (inbox : ℕ → List ℕ) where
  -- after q rounds, to speak, and to listen
  abbrev at : ℕ → Column
  at q = course p n m own bytes inbox q

  abbrev between : ℕ → Column
  between q = listening p n m own bytes inbox q

  -- what a list of calls comes to, from a state of the course on
  pub record Walked (q : ℕ) (items : List (Item Call)) : Type 0 where
    -- none is refused
    pub none_refused_lem : T (none_refused (machine p) (at q) items)
    -- the list ends where the course does
    pub ended : final (machine p) (at q) items ≡ at (rounds_in p n)
    -- its k-th call to speak wrote what is said in that round
    pub wrote_at : (k r : ℕ) → q + k ≡ r → r < rounds_in p n → get_or (wrote (machine p) (at q) items) k [] ≡ outgoing (at r) (suc r)
    -- its next s calls lead to the state after r rounds
    pub led : (s r : ℕ) → 2 * q + s ≡ 2 * r → r ≤ rounds_in p n → after_leading (machine p) s (at q) items ≡ at r
    -- or to the one in which it listens after them
    pub led_between : (s r : ℕ) → 2 * q + s ≡ suc (2 * r) → r < rounds_in p n → after_leading (machine p) s (at q) items ≡ between r

  nothing_left : Walked (rounds_in p n) []
  unfolding none_refused final wrote after_leading
  nothing_left = record { none_refused_lem = tt; ended = refl; wrote_at = λ k r i l. absurd (omega arith); led = led_on; led_between = λ s r i l. absurd (omega arith) }
    where
      led_on : (s r : ℕ) → 2 * rounds_in p n + s ≡ 2 * r → r ≤ rounds_in p n → after_leading (machine p) s (at (rounds_in p n)) [] ≡ at r
      led_on zero r i l = ap at (omega arith)
      led_on (suc s) r i l = absurd (omega arith)

  module _ (out : ℕ → List ℕ) (A : Ready p n m own bytes inbox out) where
    pub speaks_in : (q : ℕ) → q < rounds_in p n
        → (refusal_at (at q) (Speaks (out (suc q))) ≡ 0) × (after (at q) (Speaks (out (suc q))) ≡ between q) × (written (at q) (out (suc q)) ≡ outgoing (at q) (suc q))
    speaks_in q l =
        let is = course_is p n m own bytes inbox q in
        spoke (at q) (suc q) (course_fits p n m own bytes inbox A.accepted A.poster A.full q (omega arith)) (out (suc q)) (to_speak p n m own bytes inbox q l) (rw (is.protocol_is, is.n_is, is.m_is) (A.out_length (suc q) (omega arith) l))

    pub listens_in : (q : ℕ) → q < rounds_in p n → (refusal_at (between q) (Listens (inbox (suc q))) ≡ 0) × (after (between q) (Listens (inbox (suc q))) ≡ at (suc q))
    unfolding course listens
    listens_in q l =
        let is = course_is p n m own bytes inbox q in
        let (done, next) = listened (between q) (suc q) (listening_fits p n m own bytes inbox A.accepted A.poster A.full q l (course_fits p n m own bytes inbox A.accepted A.poster A.full q (omega arith))) (inbox (suc q)) refl (rw (is.protocol_is, is.n_is, is.m_is) (A.inbox_length (suc q) (omega arith) l)) in
        (done, next ∙ ap₂ (λ (p : Protocol) (n : ℕ). hears (kind_in p n (suc q)) (Speak (suc q + 1)) (between q) (inbox (suc q))) is.protocol_is is.n_is)

    -- a round more in front
    round_in_front : {items : List (Item Call)} (q : ℕ) → q < rounds_in p n → Walked (suc q) items → Walked q (leading (Speaks (out (suc q))) ∷ leading (Listens (inbox (suc q))) ∷ items)
    unfolding none_refused final wrote after_leading spoken slice_after
    round_in_front {items} q h w =
        record {
          none_refused_lem = and_both (eqb (refusal_at (at q) (Speaks o)) 0) (eqb (refusal_at (after (at q) (Speaks o)) (Listens x)) 0 && none_refused (machine p) (after (after (at q) (Speaks o)) (Listens x)) items)
              (eq→eqb (refusal_at (at q) (Speaks o)) 0 (speaks_in q h).0)
              (and_both (eqb (refusal_at (after (at q) (Speaks o)) (Listens x)) 0) (none_refused (machine p) (after (after (at q) (Speaks o)) (Listens x)) items)
              (eq→eqb _ 0 (ap (λ (c : Column). refusal_at c (Listens x)) (speaks_in q h).1 ∙ (listens_in q h).0)) (subst (λ (c : Column). T (none_refused (machine p) c items)) (sym next) w.none_refused_lem));
          ended = ap (λ (c : Column). final (machine p) c items) next ∙ w.ended;
          wrote_at = wrote_on;
          led = led_on;
          led_between = led_within;
        }
      where
        o : List ℕ
        o = out (suc q)

        x : List ℕ
        x = inbox (suc q)

        next : after (after (at q) (Speaks o)) (Listens x) ≡ at (suc q)
        next = ap (λ (c : Column). after c (Listens x)) (speaks_in q h).1 ∙ (listens_in q h).1

        wrote_on : (k r : ℕ) → q + k ≡ r → r < rounds_in p n → get_or (wrote (machine p) (at q) (leading (Speaks o) ∷ leading (Listens x) ∷ items)) k [] ≡ outgoing (at r) (suc r)
        wrote_on zero r i l = (speaks_in q h).2 ∙ ap (λ (r : ℕ). outgoing (at r) (suc r)) (omega arith)
        wrote_on (suc k) r i l = ap (λ (c : Column). get_or (wrote (machine p) c items) k []) next ∙ w.wrote_at k r (omega arith) l

        led_on : (s r : ℕ) → 2 * q + s ≡ 2 * r → r ≤ rounds_in p n → after_leading (machine p) s (at q) (leading (Speaks o) ∷ leading (Listens x) ∷ items) ≡ at r
        led_on zero r i l = ap at (omega arith)
        led_on (suc zero) r i l = absurd (omega arith)
        led_on (suc (suc s)) r i l = ap (λ (c : Column). after_leading (machine p) s c items) next ∙ w.led s r (omega arith) l

        led_within : (s r : ℕ) → 2 * q + s ≡ suc (2 * r) → r < rounds_in p n → after_leading (machine p) s (at q) (leading (Speaks o) ∷ leading (Listens x) ∷ items) ≡ between r
        led_within zero r i l = absurd (omega arith)
        led_within (suc zero) r i l = (speaks_in q h).1 ∙ ap between (omega arith)
        led_within (suc (suc s)) r i l = ap (λ (c : Column). after_leading (machine p) s c items) next ∙ w.led_between s r (omega arith) l

    walked : (k q : ℕ) → q + k ≡ rounds_in p n → Walked q (all_leading (turns out inbox (suc q) k))
    unfolding all_leading turns
    walked zero q e = subst (λ (q : ℕ). Walked q []) (omega arith) nothing_left
    walked (suc k) q e = round_in_front q (omega arith) (walked k (suc q) (omega arith))

    pub walk : Walked 0 (all_leading (turns out inbox 1 (rounds_in p n)))
    walk = walked (rounds_in p n) 0 (omega arith)
