-- `Letter::copy` meets its contract.
use Rattle.std.proofs.Common.{◌+◌}
use Rattle.lists.specs.Loops.{Filled}
use Rattle.delivery.specs.Delivery.{sent}
use Rattle.delivery.proofs.Letter.copy.Given as goal

abbrev pub invariant-loop-k : goal.invariant-loop-k
invariant-loop-k l = Filled (sent l.sheet l.self.round l.mail (l.self.to + 1) (l.self.j + 1)) l.self.round.width l.initial.part l.part l.k
