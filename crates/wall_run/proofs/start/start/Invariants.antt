-- `start::start` meets its contract.
use Rattle.lists.specs.Loops.{Filled}
use Rattle.wall_run.specs.Run.{made}
use Rattle.wall_run.proofs.start.start.Given as goal

abbrev pub invariant-loop-i : goal.invariant-loop-i
invariant-loop-i l = Filled (made l.protocol l.sheet) l.n l.initial.wall l.wall l.i
