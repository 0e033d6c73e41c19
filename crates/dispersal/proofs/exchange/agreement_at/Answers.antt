-- `exchange::agreement_at` meets its contract.
use Rattle.std.proofs.Common.{sym, arith, ◌∙◌, ◌*◌}
use Rattle.lists.specs.Rows.{row_fits}
use Rattle.dispersal.specs.Laws.{agrees_past, agrees_itself, agrees_not, agrees_other}
use Rattle.dispersal.proofs.exchange.agreement_at.Goals as goal

pub returns-then-n-i : goal.returns-then-n-i
returns-then-n-i c = agrees_past _ _ _ _ _ _ _ c.if-n-i.true

pub returns-then-i-own : goal.returns-then-i-own
returns-then-i-own c = agrees_itself _ _ _ _ _ _ _ c.if-n-i.false c.if-i-own.true

pub same_values-requires : goal.same_values-requires
same_values-requires c =
    (omega arith, c.requires.2, omega (arith, c.place-at.ensures, c.requires.3, row_fits (2 * c.args.b) c.args.i c.args.n (omega arith)))

pub returns-then-not-same_values : goal.returns-then-not-same_values
returns-then-not-same_values c =
    agrees_not _ _ _ _ _ _ _ (omega arith) c.if-i-own.false _ c.place-at.ensures (sym c.same_values.ensures ∙ c.if-not-same_values.true)

pub overflow_add-at : goal.overflow_add-at
overflow_add-at c =
    record { fits = omega (arith, c.place-at.ensures, c.requires.3, row_fits (2 * c.args.b) c.args.i c.args.n (omega arith)) }

pub same_as-requires : goal.same_as-requires
same_as-requires c =
    (omega (arith, c.requires.1), omega (arith, c.place-at.ensures, c.requires.3, row_fits (2 * c.args.b) c.args.i c.args.n (omega arith)))

pub returns : goal.returns
returns c =
    agrees_other _ _ _ _ _ _ _ (omega arith) c.if-i-own.false _ c.place-at.ensures
    (sym c.same_values.ensures ∙ c.if-not-same_values.false) _ c.same_as.ensures
