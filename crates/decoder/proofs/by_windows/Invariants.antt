-- `by_windows` meets its contract.
use Rattle.decoder.proofs.Windows.{Missed}
use Rattle.decoder.proofs.by_windows.Given as goal

abbrev pub invariant-loop : goal.invariant-loop
invariant-loop l = Missed l.n l.points l.counter l.a
