-- `mix` meets its contract.
use Rattle.std.proofs.Common.{ap, arith, ◌∙◌, ℕ, get_or}
use Rattle.lists.specs.Loops.{filled_none, filled_read, filled_more, filled_done}
use Rattle.field.specs.Field.{add, multiply}
use Rattle.field.specs.declared.Field.{Field}
use Rattle.locator.specs.Locator.{mixed_at}
use Rattle.locator.proofs.mix.Goals as goal

pub loop-i-init : goal.loop-i-init
loop-i-init c = filled_none _ _ _ (omega (arith, c.well_formed))

pub loop-i-preserved : goal.loop-i-preserved
unfolding mixed_at
loop-i-preserved c =
    let l = c.loop-i in
    filled_more _ _ _ _ _ _ l.invariant (omega arith)
    (ap (λ (v : Field). v.0) c.add_products.ensures ∙ ap (λ (z : ℕ). add (multiply c.args.a z) (multiply c.args.b (get_or c.args.lead.now l.i 0))) (filled_read _ _ _ _ l.i 0 l.invariant))

pub returns : goal.returns
returns c = filled_done _ _ _ _ _ c.loop-i.invariant (omega arith) (omega (arith, c.well_formed))
