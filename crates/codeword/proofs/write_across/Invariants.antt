-- `write_across` meets its contract.
use Rattle.lists.specs.Loops.{Filled}
use Rattle.codeword.specs.Codeword.{across}
use Rattle.codeword.proofs.write_across.Given as goal

abbrev pub invariant-loop-k : goal.invariant-loop-k
invariant-loop-k l = Filled (across l.words l.i) l.b l.initial.x-items l.x-items l.k
