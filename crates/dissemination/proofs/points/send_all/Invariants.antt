-- `points::send_all` meets its contract.
use Rattle.lists.specs.Loops.{Rowed}
use Rattle.dissemination.proofs.Laws.{points_across}
use Rattle.dissemination.proofs.points.send_all.Given as goal

abbrev pub invariant-loop-j : goal.invariant-loop-j
invariant-loop-j l = Rowed (points_across l.words) l.b l.n l.initial.out l.out l.j
