-- `ranges::bytes_fit` meets its contract.
use Rattle.std.proofs.Common.{◌≤◌}
use Rattle.lists.specs.Loops.{Tested}
use Rattle.agreement.specs.Column.{byte_fits}
use Rattle.refusals.proofs.ranges.bytes_fit.Given as goal

abbrev pub invariant-loop-p : goal.invariant-loop-p
invariant-loop-p l = Tested (byte_fits l.m l.bytes) 32 l.fit l.p × (l.m ≤ l.p)
