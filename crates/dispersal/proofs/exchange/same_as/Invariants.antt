-- `exchange::same_as` meets its contract.
use Rattle.lists.specs.Loops.{Tested}
use Rattle.dispersal.specs.Laws.{same_as}
use Rattle.dispersal.proofs.exchange.same_as.Given as goal

abbrev pub invariant-loop-k : goal.invariant-loop-k
invariant-loop-k l = Tested (same_as l.mine l.inbox l.at) l.b l.same l.k
