-- `ranges::points_fit` meets its contract.
use Rattle.std.proofs.Common.{arith}
use Rattle.lists.specs.Loops.{tested_none, tested_more, tested_done}
use Rattle.messages.specs.Messages.{said}
use Rattle.agreement.specs.Column.{point_fits}
use Rattle.refusals.proofs.ranges.points_fit.Goals as goal

pub loop-k-init : goal.loop-k-init
loop-k-init c = tested_none _ _

pub loop-k-preserved : goal.loop-k-preserved
unfolding point_fits said
loop-k-preserved c = tested_more _ _ _ _ _ c.loop-k.invariant (omega arith) (rw c.value.ensures at c.point_fits-fit.ensures)

pub returns : goal.returns
returns c = tested_done _ _ _ _ c.loop-k.invariant (omega arith)
