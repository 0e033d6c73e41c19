-- `answers::fresh` meets its contract.
use Rattle.agreement.specs.Calls.{no_column}
use Rattle.column_bytes.specs.Calls.{fresh_answer, fresh_state}
use Rattle.column_bytes.proofs.answers.fresh.Goals as goal

pub returns : goal.returns
unfolding fresh_answer fresh_state
returns c = rw c.fresh.ensures at (c.keep.ensures no_column)
