-- `hear` meets its contract.
use Rattle.std.proofs.Common.{sym}
use Rattle.rounds.specs.Rounds.{heard_in}
use Rattle.rounds.specs.Ready.{ready, answered_refused, answered_done}
use Rattle.rounds.proofs.hear.Goals as goal

pub returns-in_err-refusal : goal.returns-in_err-refusal
unfolding heard_in
returns-in_err-refusal c = answered_refused _ _ _ c.from_residual.ensures.1 c.in_err-refusal.ensures _

pub hear-requires : goal.hear-requires
hear-requires c = ready _ _ _ (sym c.in_ok-refusal.ensures)

pub returns : goal.returns
unfolding heard_in
returns c = answered_done _ c.in_ok-refusal.ensures _ _ c.hear.ensures
