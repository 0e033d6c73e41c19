-- `points::kept_point` meets its contract.
use Rattle.dissemination.specs.Laws.{heard_of}
use Rattle.dissemination.proofs.Kept.{Best}
use Rattle.dissemination.proofs.points.kept_point.Given as goal

abbrev pub invariant-loop-i : goal.invariant-loop-i
invariant-loop-i l = Best l.n (heard_of l.own l.mine l.b l.inbox l.k) l.i l.best
