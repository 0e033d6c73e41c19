-- The course of one column: its state after each round, from the slices that it listens to, what stays as it was, and that it is in its ranges.
use Rattle.std.specs.Prelude.{◌≡◌, List, T, length}
use Rattle.std.proofs.Math.Path.{refl, ap}
use Rattle.std.proofs.Common.{◌∙◌, arith}
use Prim.Native.Nat.{ℕ, ◌+◌, zero, suc, ◌≤◌, ◌<◌}
use Rattle.sizes.specs.Sizes.{refusal}
use Rattle.protocols.specs.declared.Protocol.{Protocol}
use Rattle.protocols.specs.Protocols.{rounds_in, kind_in, beside}
use Rattle.agreement.specs.declared.Stage.TheVariants.{Speak, Listen}
use Rattle.agreement.specs.declared.Column.{Column}
use Rattle.agreement.specs.Column.{fresh_column, stage_fits, fits}
use Rattle.agreement.specs.Parts.{with_stage}
use Rattle.agreement.specs.Rounds.{hears}
use Rattle.agreement.proofs.Ranges.{with_stage_lem, round_fits, fresh_fits}
use Rattle.agreement.proofs.Heard.{Is, hears_is, hears_next, hears_fits}
use Rattle.agreement.proofs.ByKind.{goes_on, before_last}

-- column `own` of n with the record `bytes`, which listens to the slices `inbox`: its state after q rounds
module _ (p : Protocol) (n m own : ℕ) (bytes : List ℕ) (inbox : ℕ → List ℕ) where
  unfoldable pub course : ℕ → Column
  course zero = fresh_column p n m own bytes
  course (suc q) = hears (kind_in p n (suc q)) (Speak (suc q + 1)) (with_stage (Listen (suc q)) (course q)) (inbox (suc q))

  -- and the one in which it listens in the next round
  abbrev pub listening : ℕ → Column
  listening q = with_stage (Listen (suc q)) (course q)

  -- it is the column that it was
  pub course_is : (q : ℕ) → Is p n m own (course q)
  unfolding course fresh_column
  course_is zero = record { protocol_is = refl; n_is = refl; m_is = refl; own_is = refl }
  course_is (suc q) = hears_is (kind_in p n (suc q)) (Speak (suc q + 1)) (listening q) (inbox (suc q)) (course_is q)

  -- before the end it is to speak
  pub to_speak : (q : ℕ) → q < rounds_in p n → (course q).stage ≡ Speak (suc q)
  unfolding course fresh_column
  to_speak zero l = refl
  to_speak (suc q) l = hears_next (kind_in p n (suc q)) (Speak (suc q + 1)) (listening q) (inbox (suc q)) (goes_on p n (suc q) (omega arith) l) ∙ ap Speak (omega arith)

  -- a round of the run, as the column counts them
  in_run : (q round : ℕ) → 1 ≤ round → round ≤ rounds_in p n → T (stage_fits (rounds_in (course q).protocol (course q).n) (Speak round))
  unfolding stage_fits
  in_run q round low high =
      let is = course_is q in
      rw (is.protocol_is, is.n_is) (round_fits (rounds_in p n) round low high)

  module _ (accepted : refusal n m own ≡ 0) (poster : refusal n m (beside p) ≡ 0) (full : length bytes ≡ m) where
    pub listening_fits : (q : ℕ) → q < rounds_in p n → T (fits (course q)) → T (fits (listening q))
    unfolding stage_fits
    listening_fits q l h = with_stage_lem (course q) h (Listen (suc q)) (in_run q (suc q) (omega arith) l)

    pub course_fits : (q : ℕ) → q ≤ rounds_in p n → T (fits (course q))
    unfolding course
    course_fits zero l = fresh_fits p n m own bytes accepted poster full
    course_fits (suc q) l =
        hears_fits (kind_in p n (suc q)) (Speak (suc q + 1)) (listening q) (inbox (suc q)) (λ e. in_run q (suc q + 1) (omega arith) (omega (arith, before_last p n (suc q) l e)))
        (listening_fits q l (course_fits q (omega arith)))
