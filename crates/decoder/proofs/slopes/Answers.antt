-- `slopes` meets its contract.
use Rattle.decoder.specs.Steps.{slopes_wanted}
use Rattle.decoder.proofs.slopes.Goals as goal

pub returns : goal.returns
returns c =
    let a = c.args in
    rw (c.slope.ensures, c.slope-2.ensures, c.slope-3.ensures)
    (slopes_wanted a.k a.x.a a.v.a a.x.b a.x.c a.x.d a.v.b a.v.c a.v.d c.requires)
