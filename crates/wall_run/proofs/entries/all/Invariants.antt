-- `entries::all` meets its contract.
use Rattle.lists.specs.Loops.{Filled}
use Rattle.wall_run.specs.Run.{entry_in}
use Rattle.wall_run.proofs.entries.all.Given as goal

abbrev pub invariant-loop-i : goal.invariant-loop-i
invariant-loop-i l = Filled (entry_in l.sheet l.wall) l.n l.initial.entries l.entries l.i
