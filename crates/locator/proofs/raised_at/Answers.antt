-- `raised_at` meets its contract: a sum with no second product is the first one.
use Rattle.std.proofs.Common.{◌≡◌, ◌∙◌, ap, arith, ℕ, ◌%◌}
use Rattle.field.specs.Field.{add, multiply}
use Rattle.field.specs.declared.Field.{Field}
use Rattle.locator.proofs.raised_at.Goals as goal

alone : (p : ℕ) → add (p % 257) (multiply 0 0) ≡ p % 257
alone p = omega arith

pub returns : goal.returns
returns c =
    let a = c.args in
    ap (λ (v : Field). v.0) c.add_products.ensures
    ∙ ap (λ (f : Field). add (multiply f.0 a.v) (multiply 0 0)) c.add-factor.ensures
    ∙ alone _
