-- `points::heard_at` meets its contract.
use Rattle.std.proofs.Common.{◌≡◌, ◌+◌, ◌-◌, arith, eq-eqb, ne_eqb}
use Rattle.dissemination.specs.Laws.{heard_of}
use Rattle.dissemination.proofs.points.heard_at.Goals as goal

pub returns-then-i-own : goal.returns-then-i-own
unfolding heard_of
returns-then-i-own c = simp (eq-eqb _ _ c.if-i-own.true)

pub returns : goal.returns
unfolding heard_of
returns c =
    let i = c.args.i in
    let row : i + 1 - 1 ≡ i = omega arith in
    simp (ne_eqb _ _ c.if-i-own.false, c.place-at.ensures, row)
