-- `mix` meets its contract.
use Rattle.lists.specs.Loops.{Filled}
use Rattle.locator.specs.Locator.{mixed_at}
use Rattle.locator.proofs.mix.Given as goal

abbrev pub invariant-loop-i : goal.invariant-loop-i
invariant-loop-i l = Filled (mixed_at l.a l.b l.initial.numbers l.lead) 64 l.initial.numbers l.numbers l.i
