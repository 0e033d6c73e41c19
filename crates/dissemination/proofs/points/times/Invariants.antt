-- `points::times` meets its contract.
use Rattle.std.proofs.Common.{eqb}
use Rattle.lists.specs.Loops.{Counted}
use Rattle.messages.specs.Messages.{from}
use Rattle.dissemination.proofs.points.times.Given as goal

abbrev pub invariant-loop-i : goal.invariant-loop-i
invariant-loop-i l = Counted (λ j. eqb (from l.values j) l.v) 32 l.i l.sum
