-- `row::write` writes the row from its front.
use Rattle.std.proofs.Common.{length}
use Rattle.lists.specs.Loops.{Filled}
use Rattle.wall_run.specs.Row.{entry_at}
use Rattle.wall_run.proofs.row.write.Given as goal

abbrev pub invariant-loop-i : goal.invariant-loop-i
invariant-loop-i l = Filled (entry_at l.entries) (length l.initial.row) l.initial.row l.row l.i
