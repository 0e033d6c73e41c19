-- `to_make` meets its contract.
use Rattle.std.proofs.Common.{◌≡◌, sym, ◌∙◌, ℕ, eq-eqb, ne_eqb}
use Rattle.sizes.proofs.Refusals.{passed}
use Rattle.messages.specs.Messages.{refusal}
use Rattle.messages.proofs.Laws.{refused_before, refused_behind}
use Rattle.agreement.specs.Calls.{or_else, fresh_refusal}
use Rattle.refusals.proofs.to_make.Goals as goal

-- of the refusals a and b of the two numbers and that of the record's length, the first
module _ (a b m len : ℕ) where
  first_is : (a ≡ 0 → ⊥) → a ≡ refusal (or_else a b) 1 m len
  unfolding or_else
  first_is h = rw (ne_eqb a 0 h) (sym (refused_before a 1 m len h))

  second_is : 0 ≡ a → (b ≡ 0 → ⊥) → b ≡ refusal (or_else a b) 1 m len
  unfolding or_else
  second_is e h = rw (eq-eqb a 0 (sym e)) (sym (refused_before b 1 m len h))

  third_is : 0 ≡ a → 0 ≡ b → refusal 0 1 m len ≡ refusal (or_else a b) 1 m len
  unfolding or_else
  third_is e f = rw (eq-eqb a 0 (sym e)) (sym (refused_behind b 1 m len f))

pub returns-in_err-refusal : goal.returns-in_err-refusal
unfolding fresh_refusal
returns-in_err-refusal c =
    let p = passed _ c.from_residual.result c.from_residual.ensures.1 c.in_err-refusal.ensures in
    p.0 ∙ first_is _ _ _ _ p.1

pub returns-in_err-refusal-2 : goal.returns-in_err-refusal-2
unfolding fresh_refusal
returns-in_err-refusal-2 c =
    let p = passed _ c.from_residual-in_err-refusal-2.result c.from_residual-in_err-refusal-2.ensures.1 c.in_err-refusal-2.ensures in
    rw (← c.beside.ensures) (p.0 ∙ second_is _ _ _ _ c.in_ok-refusal.ensures p.1)

pub returns : goal.returns
unfolding fresh_refusal
returns c = rw (← c.beside.ensures) (c.refusal-3.ensures ∙ third_is _ _ _ _ c.in_ok-refusal.ensures c.in_ok-refusal-2.ensures)
