-- `refusal` meets its contract.
use Rattle.std.proofs.Common.{sym, ◌∙◌}
use Rattle.sizes.proofs.Refusals.{passed}
use Rattle.messages.proofs.Laws.{refused_before}
use Rattle.rounds.specs.Rounds.{round_refusal}
use Rattle.rounds.proofs.refusal.Goals as goal

pub returns-in_err-refusal : goal.returns-in_err-refusal
unfolding round_refusal
returns-in_err-refusal c =
    let p = passed _ c.from_residual.result c.from_residual.ensures.1 c.in_err-refusal.ensures in
    p.0 ∙ sym (refused_before _ _ _ _ p.1)
