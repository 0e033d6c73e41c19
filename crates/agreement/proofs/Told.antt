-- A column that is asked for its entry: what a call returns, and what it replies.
use Rattle.std.proofs.Math.Path.{◌≡◌, refl, sym, ap}
use Rattle.std.specs.Prelude.{Bool, ℕ, Result, Ok, Err}
use Rattle.std.proofs.Math.Bool.{true, false, cond}
use Rattle.std.proofs.Common.{arith}
use borrow.Author.Tests.{ne_eqb, eqb-true}
use Rattle.std.proofs.Math.Dec.{eqb}
use Rattle.sizes.specs.declared.numbers.Refusal.{Refusal}
use Rattle.sizes.specs.Refusals.{number, Gives}
use Rattle.sizes.proofs.Refusals.{some}
use Rattle.agreement.specs.declared.Outcome.{Outcome}
use Rattle.agreement.specs.declared.Column.{Column}
use Rattle.agreement.specs.declared.Entry.{Entry}
use Rattle.agreement.specs.Replies as R
use Rattle.agreement.specs.Replies.{Told}
use Rattle.agreement.specs.Calls.{outcome_refusal, ending, reply_of, outcome}
use Rattle.agreement.specs.Entries.{mark_only, sound_entry, told, told_in}

module _ (c : Column) where
  pub told_given : (r : Result Entry Refusal) → Gives r (outcome_refusal c) (sound_entry c) → told_in r ≡ told c
  unfolding told
  told_given (Ok entry) g = rw (← g.0, g.1) refl
  told_given (Err why) g = rw (← g.0, ne_eqb (number why) 0 (some why)) refl

  pub told_ended : (o : Outcome) → (outcome c).reply ≡ R.Ended o → ◌≡◌ {A = Told} (record { refusal = 0; entry = sound_entry c }) (told c)
  unfolding outcome reply_of told
  told_ended o = go (eqb (outcome_refusal c) 0) refl
    where
      go : (b : Bool) → eqb (outcome_refusal c) 0 ≡ b → cond b (R.Ended (ending c.stage)) (R.Refused (outcome_refusal c)) ≡ R.Ended o
          → ◌≡◌ {A = Told} (record { refusal = 0; entry = sound_entry c }) (record { refusal = outcome_refusal c; entry = cond b (sound_entry c) (mark_only 0) })
      go true e h = ap {B = Told} (λ (why : ℕ). record { refusal = why; entry = sound_entry c }) (sym (eqb-true (outcome_refusal c) 0 e))
      go false e h = let z : ◌≡◌ {A = ℕ} 0 1 = cc in absurd (omega arith)

  pub told_refused : (why : ℕ) → (outcome c).reply ≡ R.Refused why → ◌≡◌ {A = Told} (record { refusal = why; entry = mark_only 0 }) (told c)
  unfolding outcome reply_of told
  told_refused why = go (eqb (outcome_refusal c) 0) refl
    where
      go : (b : Bool) → eqb (outcome_refusal c) 0 ≡ b → cond b (R.Ended (ending c.stage)) (R.Refused (outcome_refusal c)) ≡ R.Refused why
          → ◌≡◌ {A = Told} (record { refusal = why; entry = mark_only 0 }) (record { refusal = outcome_refusal c; entry = cond b (sound_entry c) (mark_only 0) })
      go true e h = let z : ◌≡◌ {A = ℕ} 0 1 = cc in absurd (omega arith)
      go false e h = let same : why ≡ outcome_refusal c = cc in ap {B = Told} (λ (q : ℕ). record { refusal = q; entry = mark_only 0 }) same
