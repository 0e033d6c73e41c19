-- `to_all` meets its contract.
use Rattle.lists.specs.Loops.{Rowed}
use Rattle.messages.specs.Messages.{said}
use Rattle.messages.proofs.to_all.Given as goal

abbrev pub invariant-loop-j : goal.invariant-loop-j
invariant-loop-j l = Rowed (λ j. said l.message) l.w l.n l.initial.out l.out l.j
