-- `deliver_messages` meets its contract.
use Rattle.std.proofs.Common.{◌+◌}
use Rattle.lists.specs.Loops.{Rowed}
use Rattle.delivery.specs.Delivery.{sent}
use Rattle.delivery.specs.Places.{Placed}
use Rattle.delivery.proofs.deliver_messages.Given as goal

abbrev pub invariant-loop-j : goal.invariant-loop-j
invariant-loop-j l = Rowed (sent l.sheet l.round l.mail (l.to + 1)) l.round.width l.n l.initial.inbox l.inbox l.j × Placed l.sheet l.round l.to l.j l.place
