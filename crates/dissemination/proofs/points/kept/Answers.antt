-- `points::kept` meets its contract.
use Rattle.std.proofs.Common.{sym}
use Rattle.sizes.proofs.Refusals.{passed_on}
use Rattle.messages.proofs.Laws.{accepted as messages_accepted}
use Rattle.dissemination.specs.Dissemination.{kept_points}
use Rattle.dissemination.proofs.points.kept.Goals as goal

pub returns-in_err-refusal : goal.returns-in_err-refusal
returns-in_err-refusal c = let a = c.args in
    passed_on _ (kept_points a.n a.m a.own a.speaks a.bytes a.inbox.now) c.from_residual.result c.from_residual.ensures.1 c.in_err-refusal.ensures

pub kept_points-requires : goal.kept_points-requires
kept_points-requires c = let h = messages_accepted _ _ _ _ (sym c.in_ok-refusal.ensures) in (h.0, sym h.1)
