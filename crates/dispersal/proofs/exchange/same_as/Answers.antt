-- `exchange::same_as` meets its contract.
use Rattle.std.proofs.Common.{refl, arith}
use Rattle.lists.specs.Loops.{tested_none, tested_more, tested_done}
use Rattle.dispersal.specs.Laws.{same_as}
use Rattle.dispersal.proofs.exchange.same_as.Goals as goal

pub loop-k-init : goal.loop-k-init
loop-k-init c = tested_none _ _

pub loop-k-preserved : goal.loop-k-preserved
unfolding same_as
loop-k-preserved c = tested_more _ _ _ _ _ c.loop-k.invariant (omega arith) refl

pub returns : goal.returns
returns c = tested_done _ _ _ _ c.loop-k.invariant (omega arith)
