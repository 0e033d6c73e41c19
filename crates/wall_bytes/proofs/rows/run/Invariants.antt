-- `rows::run` meets its contract.
use Rattle.wall_bytes.specs.Laws.{Entered}
use Rattle.wall_bytes.proofs.rows.run.Given as goal

abbrev pub invariant-loop-i : goal.invariant-loop-i
invariant-loop-i l = Entered l.all l.n l.initial.row l.row l.i
