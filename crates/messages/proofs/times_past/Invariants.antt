-- `times_past` meets its contract.
use Rattle.std.proofs.Common.{eqb}
use Rattle.lists.specs.Loops.{Counted}
use Rattle.messages.specs.Messages.{from}
use Rattle.messages.proofs.times_past.Given as goal

abbrev pub invariant-loop-i : goal.invariant-loop-i
invariant-loop-i l = Counted (λ j. eqb (from l.values j) l.v) l.n l.i l.sum
