-- `word` meets its contract.
use Rattle.std.proofs.Common.{◌∙◌, arith}
use Rattle.lists.specs.Loops.{filled_none, filled_more, filled_done}
use Rattle.block.specs.Block.{word_at}
use Rattle.block.proofs.Values.{behind_zero}
use Rattle.block.proofs.word.Goals as goal

pub loop-i-init : goal.loop-i-init
loop-i-init c = filled_none _ _ _ (omega arith)

pub loop-i-preserved : goal.loop-i-preserved
unfolding word_at
loop-i-preserved c = filled_more _ _ _ _ _ _ c.loop-i.invariant (omega (arith, c.loop-i.invariant.same, c.loop-i-test.true)) (c.behind.ensures ∙ behind_zero _ _)

pub returns : goal.returns
returns c = filled_done _ _ _ _ _ c.loop-i.invariant (omega (arith, c.loop-i.invariant.same, c.loop-i-test.false)) (omega arith)
