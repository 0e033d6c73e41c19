-- `encode` meets its contract.
use Rattle.std.proofs.Common.{sym, ◌∙◌}
use Rattle.sizes.proofs.Refusals.{passed}
use Rattle.messages.proofs.Laws.{accepted, if_refused, if_done}
use Rattle.state_bytes.proofs.encode.Goals as goal

pub returns-in_err-refusal : goal.returns-in_err-refusal
returns-in_err-refusal c = let p = passed _ c.from_residual.result c.from_residual.ensures.1 c.in_err-refusal.ensures in (p.0, sym (if_refused _ _ _ p.1))

pub all-requires : goal.all-requires
all-requires c = (accepted _ _ _ _ (sym c.in_ok-refusal.ensures)).1

pub returns : goal.returns
returns c = let e = c.in_ok-refusal.ensures in (e, c.all.ensures ∙ sym (if_done _ _ _ (sym e)))
