-- `raise` meets its contract.
use Rattle.std.proofs.Common.{◌≡◌, ◌∙◌, ap, ap₂, arith, ℕ, ◌+◌, ◌%◌, get_or}
use Rattle.lists.specs.Loops.{filled_none, filled_read, filled_more, filled_done}
use Rattle.field.specs.Field.{add, subtract, multiply}
use Rattle.field.specs.declared.Field.{Field}
use Rattle.locator.specs.Locator.{raised_at, raised}
use Rattle.locator.proofs.raise.Goals as goal

pub loop-i-init : goal.loop-i-init
loop-i-init c = (c.subtract-minus.ensures, filled_none _ _ _ (omega (arith, c.well_formed)))

pub loop-i-preserved : goal.loop-i-preserved
unfolding raised_at
loop-i-preserved c =
    let l = c.loop-i in
    let x = l.i % 32 + 1 in
    let p = c.args.place in
    let factor : add x (subtract 0 p) ≡ subtract x p = omega arith in (
      l.invariant.0,
      filled_more _ _ _ _ _ _ l.invariant.1 (omega arith)
          (c.raised_at.ensures ∙ ap₂ {C = ℕ} (λ (m : Field) v. multiply (add x m.0) v) l.invariant.0 (filled_read _ _ _ _ l.i 0 l.invariant.1)
          ∙ ap (λ (f : ℕ). multiply f (get_or c.args.numbers.now l.i 0)) factor),
    )

pub returns : goal.returns
unfolding raised
returns c = filled_done _ _ _ _ _ c.loop-i.invariant.1 (omega arith) (omega (arith, c.well_formed))
