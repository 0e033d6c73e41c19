-- `points::gather` meets its contract.
use Rattle.std.proofs.Common.{◌≤◌}
use Rattle.lists.specs.Loops.{Filled}
use Rattle.dissemination.specs.Laws.{heard_of}
use Rattle.dissemination.specs.Kept.{placed}
use Rattle.dissemination.proofs.points.gather.Given as goal

abbrev pub invariant-loop-i : goal.invariant-loop-i
invariant-loop-i l = Filled (placed l.n (heard_of l.own l.mine l.b l.inbox l.k)) 32 l.initial.values l.values l.i × (l.i ≤ l.n)
