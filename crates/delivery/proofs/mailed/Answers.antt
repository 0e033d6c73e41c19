-- `mailed` meets its contract.
use Rattle.std.proofs.Common.{◌≡◌, refl, arith, ◌+◌, ◌-◌}
use Rattle.delivery.specs.Delivery.{mailed}
use Rattle.delivery.proofs.mailed.Goals as goal

pub returns : goal.returns
unfolding mailed
returns c =
    let a = c.args in
    let to : a.to + 1 - 1 ≡ a.to = omega arith in
    let j : a.j + 1 - 1 ≡ a.j = omega arith in
    rw (to, j, c.value.ensures, c.place-row.ensures) refl
