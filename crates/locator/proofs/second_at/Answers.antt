-- `second_at` meets its contract.
use Rattle.std.proofs.Common.{ap, lt-ltb, le-ltb, ◌∙◌, ℕ}
use Rattle.field.specs.Field.{subtract}
use Rattle.field.specs.declared.Field.{Field}
use Rattle.locator.specs.Locator.{second_at}
use Rattle.locator.proofs.second_at.Goals as goal

pub returns-then-i-lt32 : goal.returns-then-i-lt32
unfolding second_at
returns-then-i-lt32 c = simp (lt-ltb _ _ c.if-i-lt32.true)

pub returns : goal.returns
unfolding second_at
returns c =
    simp (le-ltb _ _ c.if-i-lt32.false)
    (ap (λ (f : Field). f.0) c.subtract.ensures ∙ ap (λ (z : ℕ). subtract 0 z) c.value.ensures)
