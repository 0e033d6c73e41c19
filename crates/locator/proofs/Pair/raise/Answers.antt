-- `raise` meets its contract.
use Rattle.std.proofs.Common.{refl}
use Rattle.locator.proofs.Pair.raise.Goals as goal

pub returns : goal.returns
returns c = rw c.raise.ensures refl
