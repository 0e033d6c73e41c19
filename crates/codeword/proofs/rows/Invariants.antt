-- `rows` meets its contract.
use Rattle.lists.specs.Loops.{Rowed}
use Rattle.codeword.specs.Words.{row_at}
use Rattle.codeword.proofs.rows.Given as goal

abbrev pub invariant-loop-k : goal.invariant-loop-k
invariant-loop-k l = Rowed (row_at l.b l.size l.bytes) 32 32 l.initial.all l.all l.k
