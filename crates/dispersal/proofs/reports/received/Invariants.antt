-- `reports::received` meets its contract.
use Rattle.std.proofs.Common.{◌≤◌}
use Rattle.lists.specs.Loops.{Filled}
use Rattle.messages.specs.Messages.{from}
use Rattle.dispersal.specs.Dispersal.{report_at}
use Rattle.dispersal.proofs.reports.received.Given as goal

abbrev pub invariant-loop-i : goal.invariant-loop-i
invariant-loop-i l = Filled (report_at l.n (from l.values)) 31 l.initial.flags l.flags l.i × (l.i ≤ l.i-end)
