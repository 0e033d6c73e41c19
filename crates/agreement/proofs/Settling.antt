-- AFTER THE FIRST SOUND KING, proved of the definitions that the calls' contracts cite: `settles`.
use Rattle.std.specs.Prelude.{◌≡◌, refl, Bool, List}
use Rattle.std.proofs.Math.Path.{ap}
use Rattle.std.proofs.Common.{subst, ◌∙◌, sub-add_cancel, arith}
use Prim.Native.Nat.{ℕ, zero, suc, ◌+◌, ◌-◌, ◌*◌, ◌/◌, ◌%◌, ◌≤◌, ◌<◌}
use Rattle.std.proofs.Math.Decide.{dec_lt}
use Rattle.messages.specs.Wall.{Sound}
use Rattle.protocols.specs.declared.Protocol.TheVariants.{Agreement}
use Rattle.protocols.specs.declared.Kind.TheVariants.{Points, KeptPoints}
use Rattle.protocols.specs.Protocols.{rounds_in}
use Rattle.king.specs.King.{phases}
use Rattle.king.proofs.Phases.{first_king, settled_by}
use Rattle.machine.specs.Lists.{in_turn, after_leading, made, Run, EveryRun}
use Rattle.machine.specs.Settled.{Settled}
use Rattle.machine.proofs.Carried.{passed, settled_carried, itself}
use Rattle.agreement.specs.declared.Column.{Column}
use Rattle.agreement.specs.Rounds.{outcome_of, hears}
use Rattle.agreement.specs.Machine.{machine, plain}
use Rattle.agreement.proofs.Endings.{ended_vote}
use Rattle.agreement.proofs.ByKind.{rounds_of_lem, kind_points, kind_kept}
use Rattle.agreement.proofs.Course.{listening}
use Rattle.agreement.proofs.Courses.{Courses, state, next}
use Rattle.agreement.proofs.Agreeing.{base}
use Rattle.agreement.proofs.Phases.{votes, phase, in_phase}
use Rattle.agreement.proofs.Decision.{start_bits}
use Rattle.agreement.proofs.Turns.{extra_keeps}
use Rattle.agreement.proofs.Runs.{made_is, whole, courses}

-- THE COURSES
module _ {n m : ℕ} {H : ℕ → Bool} {held : ℕ → List ℕ} {inbox : ℕ → ℕ → List ℕ} (C : Courses Agreement n m H held inbox) where
  -- no vote changes in dissemination
  vote_spread : (i : ℕ) → (state C i (suc (base (phases n)))).vote ≡ votes C (phases n) i
  unfolding hears
  vote_spread i = ap (λ (c : Column). c.vote) (next C i (base (phases n)) Points (kind_points n (suc (base (phases n))) (omega arith)))

  vote_ended : (i : ℕ) → (state C i (suc (suc (base (phases n))))).vote ≡ votes C (phases n) i
  unfolding hears
  vote_ended i =
      let q = suc (base (phases n)) in
      let c = listening Agreement n m i (held i) (inbox i) q in
      ap (λ (c : Column). c.vote) (next C i q KeptPoints (kind_kept n (suc q) (omega arith))) ∙ ended_vote (outcome_of c (inbox i (suc q))) c ∙ vote_spread i

  -- the vote of all sound columns after q rounds is b
  abbrev Common : ℕ → ℕ → Type 0
  Common b q = (i : ℕ) → Sound n H i → (state C i q).vote ≡ b

  -- where it is one after phase p, it is so after the two rounds behind it, of the next phase or of dissemination
  two_more : (b p : ℕ) → b ≤ 1 → p ≤ phases n → Common b (base p) → (i : ℕ) → Sound n H i → ((state C i (suc (base p))).vote ≡ b) × ((state C i (suc (suc (base p)))).vote ≡ b)
  two_more b p hb high common i si = go (dec_lt p (phases n))
    where
      go : Dec (p < phases n) → ((state C i (suc (base p))).vote ≡ b) × ((state C i (suc (suc (base p)))).vote ≡ b)
      go (yes h) = in_phase C p h b hb common i si
      go (no h) =
          let last : phases n ≡ p = omega arith in
          ((rw last at (vote_spread i)) ∙ common i si, (rw last at (vote_ended i)) ∙ common i si)

  -- so where it is one after phase k and after every later one, it is so after every round from there on: r rounds behind phase p
  module _ (k b : ℕ) (hb : b ≤ 1) (common : (p : ℕ) → k ≤ p → p ≤ phases n → Common b (base p)) where
    in_round_lem : (p r q : ℕ) → k ≤ p → p ≤ phases n → r < 3 → q ≡ r + base p → Common b q
    in_round_lem p zero q low high u e = subst (Common b) (omega arith) (common p low high)
    in_round_lem p (suc zero) q low high u e = subst (Common b) (omega arith) (λ i si. (two_more b p hb high (common p low high) i si).0)
    in_round_lem p (suc (suc zero)) q low high u e = subst (Common b) (omega arith) (λ i si. (two_more b p hb high (common p low high) i si).1)
    in_round_lem p (suc (suc (suc r))) q low high u e = absurd (omega arith)

    every_round : (q : ℕ) → base k ≤ q → q ≤ rounds_in Agreement n → Common b q
    every_round q low high = in_round_lem ((q - 3) / 3) ((q - 3) % 3) q (omega arith) (omega (arith, rounds_of_lem n)) (omega arith) (omega arith)

  -- after the phase of a sound king
  pub settled_from : (k : ℕ) → k < phases n → Sound n H (suc k) → (b : ℕ) × ((q : ℕ) → base (suc k) ≤ q → q ≤ rounds_in Agreement n → Common b q)
  settled_from k l sk =
      let (b, hb, all) = settled_by C.wall (votes C) (phase C) (start_bits C) k l sk in
      (b, every_round (suc k) b hb (λ p low high i si. subst (λ (p : ℕ). (state C i (base p)).vote ≡ b) (sub-add_cancel low) (all (p - suc k) (omega arith) i si)))

-- THE LISTS OF CALLS
module _ {n m : ℕ} {H : ℕ → Bool} {held : ℕ → List ℕ} {out inbox : ℕ → ℕ → List ℕ} (R : Run (machine Agreement) Agreement n m H held (in_turn Agreement n out inbox) out inbox) where
  -- after j leading calls a column has the vote that it has after j / 2 rounds: to speak changes none
  vote_led : (i j : ℕ) → Sound n H i → j ≤ 2 * rounds_in Agreement n → (after_leading (machine Agreement) j (made (machine Agreement) n m held i) (in_turn Agreement n out inbox i)).vote ≡ (state (courses R) i (j / 2)).vote
  vote_led i j si h =
      ap (λ (c : Column). (after_leading (machine Agreement) j c (in_turn Agreement n out inbox i)).vote) (made_is R i si) ∙ go (j % 2) refl
    where
      go : (r : ℕ) → j % 2 ≡ r → (after_leading (machine Agreement) j (state (courses R) i 0) (in_turn Agreement n out inbox i)).vote ≡ (state (courses R) i (j / 2)).vote
      go zero e = ap (λ (c : Column). c.vote) ((whole R i si).led j (j / 2) (omega arith) (omega arith))
      go (suc zero) e = ap (λ (c : Column). c.vote) ((whole R i si).led_between j (j / 2) (omega arith) (omega arith))
      go (suc (suc r)) e = absurd (omega arith)

  calls_in_turn : Settled (machine Agreement) (λ c. c.vote) n m H held (in_turn Agreement n out inbox)
  unfolding phases
  calls_in_turn =
      let (k, l, sk, low) = first_king R.wall in
      let (b, all) = settled_from (courses R) k l sk in
      record {
        king = suc k;
        sound = sk;
        lowest = low;
        in_time = omega arith;
        bit = b;
        votes = passed (machine Agreement) (plain Agreement) R (2 * (3 * suc k + 3)) (λ i c. c.vote ≡ b) (λ i si j from to. vote_led i j si to ∙ all (j / 2) (omega arith) (omega arith) i si);
      }

-- THE THEOREM
pub settles : EveryRun (machine Agreement) Agreement (Settled (machine Agreement) (λ c. c.vote))
unfolding itself
settles =
    settled_carried (itself Agreement (machine Agreement) (plain Agreement) (λ c. extra_keeps c Agreement)) (λ c. c.vote) (λ c. c.vote) (λ c d is. ap (λ (c : Column). c.vote) is)
    (λ n m H held out inbox R. calls_in_turn R)
