-- `one_to_each` meets its contract.
use Rattle.std.proofs.Common.{length}
use Rattle.lists.specs.Loops.{Rowed}
use Rattle.messages.specs.Messages.{said}
use Rattle.messages.proofs.one_to_each.Given as goal

abbrev pub invariant-loop-j : goal.invariant-loop-j
invariant-loop-j l = Rowed (λ j. said l.message) 1 (length l.initial.out) l.initial.out l.out l.j
