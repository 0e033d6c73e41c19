-- `reading::are_flags` meets its contract.
use Rattle.std.proofs.Common.{refl, arith}
use Rattle.lists.specs.Loops.{tested_none, tested_more, tested_done}
use Rattle.state_bytes.specs.Layout.{is_flag}
use Rattle.state_bytes.proofs.reading.are_flags.Goals as goal

pub loop-i-init : goal.loop-i-init
loop-i-init c = tested_none _ _

pub loop-i-preserved : goal.loop-i-preserved
unfolding is_flag
loop-i-preserved c = tested_more _ _ _ _ _ c.loop-i.invariant (omega arith) (rw c.byte.ensures refl)

pub returns : goal.returns
returns c = tested_done _ _ _ _ c.loop-i.invariant (omega arith)
