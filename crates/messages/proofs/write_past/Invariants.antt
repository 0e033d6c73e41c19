-- `write_past` meets its contract.
use Rattle.lists.specs.Loops.{Filled}
use Rattle.messages.specs.Messages.{said}
use Rattle.messages.proofs.write_past.Given as goal

abbrev pub invariant-loop-k : goal.invariant-loop-k
invariant-loop-k l = Filled (said l.message) l.w l.initial.x-items l.x-items l.k
