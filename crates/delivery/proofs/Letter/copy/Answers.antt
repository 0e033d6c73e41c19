-- `Letter::copy` meets its contract.
use Rattle.std.proofs.Common.{arith}
use Rattle.lists.specs.Loops.{filled_none, filled_more}
use Rattle.delivery.proofs.Letter.copy.Goals as goal

pub loop-k-init : goal.loop-k-init
loop-k-init c = filled_none _ _ _ c.requires.1

pub loop-k-preserved : goal.loop-k-preserved
loop-k-preserved c = filled_more _ _ _ _ _ _ c.loop-k.invariant (omega arith) c.value.ensures
