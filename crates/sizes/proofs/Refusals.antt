-- Refusals that are handed on.
use Rattle.std.specs.Prelude.{◌≡◌, ℕ, Result, Ok, Err, IsOk}
use Rattle.std.specs.Result.{IsErrAnd}
use Rattle.std.proofs.Common.{ap, sym, subst, ◌∙◌, refl, arith}
use Rattle.std.proofs.lemmas.Result.{err_from_is_err_and, IfOk-at_ok}
use Rattle.sizes.specs.declared.numbers.Refusal.{Refusal}
use Rattle.sizes.specs.declared.numbers.Refusal.TheVariants as R
use Rattle.sizes.specs.Refusals.{number, number_in, Gives}

-- no refusal has the number 0
pub some : (why : Refusal) → number why ≡ 0 → ⊥
some R.Columns e = absurd (omega arith)
some R.Bytes e = absurd (omega arith)
some R.Number e = absurd (omega arith)
some R.Length e = absurd (omega arith)
some R.Mark e = absurd (omega arith)
some R.Unsound e = absurd (omega arith)
some R.Listens e = absurd (omega arith)
some R.Speaks e = absurd (omega arith)
some R.Runs e = absurd (omega arith)
some R.Ended e = absurd (omega arith)
some R.State e = absurd (omega arith)

-- at the exit of a `?`: the refusal is that of the call
pub handed_on : {A : Type 0} (why : Refusal) (r : Result A Refusal) → IsErrAnd r (λ y. y ≡ why) → r ≡ Err why
handed_on why r h = let p = err_from_is_err_and r h in p.1 ∙ ap Err p.2

-- its number is the call's, and is not 0
pub passed : {A : Type 0} (why : Refusal) {w : ℕ} (r : Result A Refusal) → IsErrAnd r (λ y. y ≡ why) → number why ≡ w → (number_in r ≡ w) × (w ≡ 0 → ⊥)
passed why r h e = (ap number_in (handed_on why r h) ∙ e, λ z. some why (e ∙ z))

-- and where an answer was to be given, it is the refusal
pub passed_on : {A : Type 0} (why : Refusal) {w : ℕ} (x : A) (r : Result A Refusal) → IsErrAnd r (λ y. y ≡ why) → number why ≡ w → Gives r w x
passed_on {A = A} why {w = w} x r h e = subst (λ (q : Result A Refusal). Gives q w x) (sym (handed_on why r h)) (e, tt)

-- a call that refuses nothing gives an answer
pub there : {A : Type 0} (r : Result A Refusal) → number_in r ≡ 0 → IsOk r
there (Ok x) e = refl
there (Err why) e = absurd (some why e)

-- and it is the one that was to be given
pub got : {A : Type 0} {w : ℕ} {x y : A} (r : Result A Refusal) → Gives r w x → r ≡ Ok y → y ≡ x
got {A = A} {x = x} r g e = IfOk-at_ok (λ (y : A). y ≡ x) e g.1
