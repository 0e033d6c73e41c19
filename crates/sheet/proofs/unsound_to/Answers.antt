-- `unsound_to` meets its contract.
use Rattle.std.proofs.Common.{◌+◌, arith}
use Rattle.lists.specs.Loops.{counted_none, counted_more, counted_done, bit_most}
use Rattle.sheet.specs.Sheet.{unsound, unsound_to}
use Rattle.sheet.proofs.unsound_to.Goals as goal

pub loop-j-init : goal.loop-j-init
loop-j-init c = counted_none _ _

pub overflow_add-sum : goal.overflow_add-sum
overflow_add-sum c = omega (arith, c.loop-j.invariant.most, c.one_if_unsound-sum.ensures, bit_most (unsound c.args.sheet.now (c.loop-j.j + 1)))

pub loop-j-preserved : goal.loop-j-preserved
loop-j-preserved c = counted_more _ _ _ _ _ c.loop-j.invariant (omega arith) c.one_if_unsound-sum.ensures

pub returns : goal.returns
unfolding unsound_to
returns c = counted_done _ _ _ _ c.loop-j.invariant (omega arith)
