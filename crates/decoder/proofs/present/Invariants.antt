-- `present` meets its contract.
use Rattle.lists.specs.Loops.{Counted}
use Rattle.decoder.specs.Places.{present_at}
use Rattle.decoder.proofs.present.Given as goal

abbrev pub invariant-loop-i : goal.invariant-loop-i
invariant-loop-i l = Counted (present_at l.points) l.n l.i l.sum
