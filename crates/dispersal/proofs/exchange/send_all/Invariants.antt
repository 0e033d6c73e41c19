-- `exchange::send_all` meets its contract.
use Rattle.std.proofs.Common.{◌*◌}
use Rattle.lists.specs.Loops.{Rowed}
use Rattle.dispersal.specs.Laws.{paired}
use Rattle.dispersal.proofs.exchange.send_all.Given as goal

abbrev pub invariant-loop-j : goal.invariant-loop-j
invariant-loop-j l = Rowed (paired l.b l.words l.own) (2 * l.b) l.n l.initial.out l.out l.j
