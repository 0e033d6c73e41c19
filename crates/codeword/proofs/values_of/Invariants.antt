-- `values_of` meets its contract.
use Rattle.lists.specs.Loops.{Filled}
use Rattle.messages.specs.Messages.{said}
use Rattle.codeword.specs.Codeword.{values}
use Rattle.codeword.proofs.values_of.Given as goal

abbrev pub invariant-loop-k : goal.invariant-loop-k
invariant-loop-k l = Filled (said (values l.n l.m l.bytes l.x)) 32 l.initial.all l.all l.k
