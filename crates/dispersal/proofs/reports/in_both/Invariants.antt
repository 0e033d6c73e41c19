-- `reports::in_both` meets its contract.
use Rattle.lists.specs.Loops.{Counted}
use Rattle.dispersal.specs.Dispersal.{agrees, reported, both}
use Rattle.dispersal.proofs.reports.in_both.Given as goal

abbrev pub invariant-loop-i : goal.invariant-loop-i
invariant-loop-i l = Counted (both (agrees l.some) (reported l.others)) l.n l.i l.sum
