-- `fresh` meets its contract.
use Rattle.agreement.specs.Calls.{fresh}
use Rattle.rounds.specs.Ready.{answered_refused, answered_done}
use Rattle.calls.proofs.fresh.Goals as goal

pub returns-in_err-to_make : goal.returns-in_err-to_make
unfolding fresh
returns-in_err-to_make c = answered_refused _ _ _ c.from_residual.ensures.1 c.in_err-to_make.ensures _

pub returns : goal.returns
unfolding fresh
returns c = answered_done _ c.in_ok-to_make.ensures _ _ c.column.ensures
