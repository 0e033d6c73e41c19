-- `raise` meets its contract.
use Rattle.std.proofs.Common.{◌≡◌}
use Rattle.lists.specs.Loops.{Filled}
use Rattle.field.specs.Field.{element, subtract}
use Rattle.locator.specs.Locator.{raised_at}
use Rattle.locator.proofs.raise.Given as goal

abbrev pub invariant-loop-i : goal.invariant-loop-i
invariant-loop-i l = (l.minus ≡ element (subtract 0 l.place)) × Filled (raised_at l.place l.initial.numbers) 64 l.initial.numbers l.numbers l.i
