-- `hits` meets its contract.
use Rattle.lists.specs.Loops.{Counted}
use Rattle.messages.specs.Messages.{from as at}
use Rattle.decoder.specs.Steps.{same_at}
use Rattle.decoder.proofs.hits.Given as goal

abbrev pub invariant-loop-i : goal.invariant-loop-i
invariant-loop-i l = Counted (same_at l.word (at l.points)) l.n l.i l.sum
