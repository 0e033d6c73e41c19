-- `locate` meets its contract: after j turns the two arrays and the weights are the run after j places.
use Rattle.locator.specs.Held.{Running}
use Rattle.locator.proofs.locate.Given as goal

abbrev pub invariant-loop-j : goal.invariant-loop-j
invariant-loop-j l = Running l.weight l.points l.first l.second l.j
