-- `turn` meets its contract: a law for each of its cases.
use Rattle.std.proofs.Common.{sym, ◌∙◌}
use Rattle.locator.specs.Locator.{first_leads, second_leads}
use Rattle.locator.specs.Held.{run_of, turn_blank, turn_first, turn_none, turn_second}
use Rattle.locator.proofs.turn.Goals as goal

pub returns-then-y-ge-MODULUS : goal.returns-then-y-ge-MODULUS
returns-then-y-ge-MODULUS c =
    let a = c.args in
    turn_blank (run_of a.first.now a.second.now) a.y a.j c.if-y-ge-MODULUS.true

pub returns-then-leads : goal.returns-then-leads
unfolding first_leads
returns-then-leads c =
    let a = c.args in
    rw (c.raise.ensures, c.clear.ensures)
    (turn_first (run_of a.first.now a.second.now) a.y a.j c.if-y-ge-MODULUS.false
    (rw (c.discrepancy-x.ensures, c.discrepancy-z.ensures) at (sym c.leads.ensures ∙ c.if-leads.true)))

pub returns-then-z-eq0 : goal.returns-then-z-eq0
returns-then-z-eq0 c =
    let a = c.args in
    turn_none (run_of a.first.now a.second.now) a.y a.j c.if-y-ge-MODULUS.false
    (rw (c.discrepancy-x.ensures, c.discrepancy-z.ensures) at (sym c.leads.ensures ∙ c.if-leads.false))
    (sym c.discrepancy-z.ensures ∙ c.if-z-eq0.true)

pub returns : goal.returns
unfolding second_leads
returns c =
    let a = c.args in
    rw (c.raise-2.ensures, c.clear-2.ensures)
    (turn_second (run_of a.first.now a.second.now) a.y a.j c.if-y-ge-MODULUS.false
    (rw (c.discrepancy-x.ensures, c.discrepancy-z.ensures) at (sym c.leads.ensures ∙ c.if-leads.false))
    (λ e. c.if-z-eq0.false (c.discrepancy-z.ensures ∙ e)))
