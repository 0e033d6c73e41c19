-- `deliver_words` meets its contract.
use Rattle.std.proofs.Common.{ℕ, suc, ◌+◌}
use Rattle.lists.specs.Loops.{Filled}
use Rattle.delivery.specs.Delivery.{sent}
use Rattle.delivery.specs.Places.{Placed}
use Rattle.delivery.proofs.deliver_words.Given as goal

abbrev pub invariant-loop-j : goal.invariant-loop-j
invariant-loop-j l = Filled (λ (i : ℕ). sent l.sheet l.round l.mail (l.to + 1) (suc i) 0) l.n l.initial.inbox l.inbox l.j × Placed l.sheet l.round l.to l.j l.place
