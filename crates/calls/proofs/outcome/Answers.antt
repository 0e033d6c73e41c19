-- `outcome` meets its contract.
use Rattle.std.proofs.Common.{refl}
use Rattle.agreement.specs.Calls.{outcome}
use Rattle.calls.proofs.outcome.Goals as goal

pub returns : goal.returns
unfolding outcome
returns c = rw (c.grade_shown-grade.ensures, c.asked-record.ensures.0, c.asked-record.ensures.1) refl
