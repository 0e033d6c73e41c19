-- `endings::asked` meets its contract.
use Rattle.calls.specs.Answers.{told_refused, told_done}
use Rattle.calls.proofs.endings.asked.Goals as goal

pub returns-in_err-to_ask : goal.returns-in_err-to_ask
returns-in_err-to_ask c = told_refused _ _ _ c.from_residual.ensures.1 c.in_err-to_ask.ensures

pub returns : goal.returns
returns c = told_done _ c.in_ok-to_ask.ensures _ c.record.ensures.0 c.record.ensures.1
