-- `ranges::points_fit` meets its contract.
use Rattle.lists.specs.Loops.{Tested}
use Rattle.agreement.specs.Column.{point_fits}
use Rattle.refusals.proofs.ranges.points_fit.Given as goal

abbrev pub invariant-loop-k : goal.invariant-loop-k
invariant-loop-k l = Tested (point_fits l.b l.kept) 32 l.fit l.k
