-- How a column ends, read off what decoding the kept points answers.
use Rattle.std.specs.Prelude.{◌≡◌, Bool, true, false, cond, List, ℕ, Result, Ok, IfOk}
use Rattle.std.specs.Prelude as P
use Rattle.std.proofs.Common.{ap, sym, ◌∙◌}
use Rattle.std.proofs.lemmas.Result.{IfOk-at_ok}
use Rattle.std.proofs.Math.Option.{Option, none}
use Rattle.sizes.specs.declared.numbers.Refusal.{Refusal}
use Rattle.sizes.specs.Sizes.{blocks}
use Rattle.dissemination.specs.Dissemination.{spoken, points_in, record_of, record_in}
use Rattle.agreement.specs.declared.Outcome.TheVariants.{Nothing}
use Rattle.agreement.specs.declared.Stage.TheVariants.{Ended}
use Rattle.agreement.specs.declared.Column.{Column}
use Rattle.agreement.specs.Parts.{with_stage}
use Rattle.agreement.specs.Rounds.{votes_one, message, outcome_of, ends_on}

module _ (c : Column) (inbox : List ℕ) where
  -- what the kept points decode to, where the column sent its own with the vote 1 or not
  abbrev pub decoded : Bool → Option (List ℕ)
  decoded votes = record_of c.n c.m (points_in c.own (spoken votes c.kept) (blocks c.n c.m) inbox)

  ends : (b : Bool) → votes_one c ≡ b → ends_on (cond b (decoded b) none) c ≡ ends_on (outcome_of c inbox) c
  unfolding outcome_of message
  ends b e = ap (λ (b : Bool). ends_on (cond b (decoded b) none) c) (sym e)

  -- with any vote but 1
  pub ends_silent : votes_one c ≡ false → with_stage (Ended Nothing) c ≡ ends_on (outcome_of c inbox) c
  unfolding ends_on
  ends_silent e = ends false e

  -- with vote 1, on what the points of all columns decode to
  pub ends_found : votes_one c ≡ true → (found : P.Option (List ℕ)) (r : Result (P.Option (List ℕ)) Refusal) → IfOk r (λ o. record_in o ≡ decoded true) → r ≡ Ok found
      → ends_on (record_in found) c ≡ ends_on (outcome_of c inbox) c
  ends_found e found r told is =
      ap (λ (o : Option (List ℕ)). ends_on o c) (IfOk-at_ok (λ (o : P.Option (List ℕ)). record_in o ≡ decoded true) is told) ∙ ends true e
