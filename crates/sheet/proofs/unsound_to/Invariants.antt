-- `unsound_to` meets its contract.
use Rattle.lists.specs.Loops.{Counted}
use Rattle.sheet.specs.Sheet.{unsound}
use Rattle.sheet.proofs.unsound_to.Given as goal

abbrev pub invariant-loop-j : goal.invariant-loop-j
invariant-loop-j l = Counted (unsound l.sheet) l.i l.j l.sum
