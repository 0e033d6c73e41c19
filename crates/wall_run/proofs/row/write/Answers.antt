-- `row::write` meets its contract.
use Rattle.std.proofs.Common.{arith, refl}
use Rattle.lists.specs.Loops.{filled_none, filled_more}
use Rattle.wall_run.proofs.row.write.Goals as goal

pub loop-i-init : goal.loop-i-init
loop-i-init c = filled_none _ _ _ (omega arith)

pub loop-i-preserved : goal.loop-i-preserved
loop-i-preserved c = filled_more _ _ _ _ _ _ c.loop-i.invariant (omega arith) refl
