-- `clear` meets its contract.
use Rattle.std.proofs.Common.{refl}
use Rattle.locator.specs.Locator.{cleared}
use Rattle.locator.proofs.Pair.clear.Goals as goal

pub returns : goal.returns
unfolding cleared
returns c = rw (c.mix.ensures, c.subtract-b.ensures, c.discrepancy.ensures, c.discrepancy-2.ensures) refl
