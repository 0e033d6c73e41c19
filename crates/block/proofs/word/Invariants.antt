-- `word` meets its contract.
use Rattle.lists.specs.Loops.{Filled}
use Rattle.block.specs.Block.{part, word_at}
use Rattle.block.proofs.word.Given as goal

abbrev pub invariant-loop-i : goal.invariant-loop-i
invariant-loop-i l = Filled (word_at (part l.c 0 l.count)) 32 l.initial.v-items l.v-items l.i
