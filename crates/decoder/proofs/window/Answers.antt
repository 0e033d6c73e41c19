-- `window` meets its contract.
use Rattle.decoder.proofs.Windows.{through_window}
use Rattle.decoder.proofs.window.Goals as goal

pub returns : goal.returns
returns c =
    let a = c.args in
    rw c.difference.ensures
    (through_window a.points.now a.a a.k _ _ _ c.requires.0 c.requires.1 c.at_place-v.ensures c.at_place.ensures c.rise-up.ensures)
