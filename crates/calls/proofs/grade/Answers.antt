-- `grade` meets its contract.
use Rattle.std.proofs.Common.{ap}
use Rattle.agreement.specs.Replies.{Replied}
use Rattle.calls.proofs.grade.Goals as goal

pub returns : goal.returns
returns c = ap (λ (r : Replied). r.grade) c.outcome.ensures
