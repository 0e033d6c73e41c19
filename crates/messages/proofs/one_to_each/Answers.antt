-- `one_to_each` meets its contract.
use Rattle.std.proofs.Common.{arith}
use Rattle.lists.specs.Lists.{list_of}
use Rattle.lists.specs.Loops.{rowed_none, rowed_more, rowed_done}
use Rattle.messages.specs.Messages.{to_all}
use Rattle.messages.proofs.one_to_each.Goals as goal

pub loop-j-init : goal.loop-j-init
loop-j-init c = rowed_none _ _ _ _ (omega arith)

pub loop-j-preserved : goal.loop-j-preserved
unfolding list_of
loop-j-preserved c = rowed_more _ _ _ _ _ _ _ c.loop-j.j c.loop-j.invariant (omega arith) (omega arith) (rw c.value.ensures at c.copy.ensures)

pub returns : goal.returns
unfolding to_all
returns c = rowed_done _ _ _ _ _ _ c.loop-j.invariant (omega arith)
