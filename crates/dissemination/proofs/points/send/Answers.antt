-- `points::send` meets its contract.
use Rattle.std.proofs.Common.{sym, ap, ◌∙◌, Bool, List, ℕ, length}
use Rattle.sizes.proofs.Refusals.{passed}
use Rattle.messages.specs.Messages.{unless_refused}
use Rattle.messages.proofs.Laws.{if_refused, if_done, accepted as messages_accepted}
use Rattle.dissemination.specs.Dissemination.{points_to_all, round_refusal}
use Rattle.dissemination.proofs.Laws.{points_none}
use Rattle.dissemination.proofs.points.send.Goals as goal

pub returns-then-not-speaks : goal.returns-then-not-speaks
returns-then-not-speaks c =
    let a = c.args in
    let told = c.send.ensures in (
      told.0,
      told.1 ∙ ap (λ (l : List ℕ). unless_refused (round_refusal a.n a.m 1 (length a.out.now)) l a.out.now) (points_none a.n a.m a.speaks a.bytes _ (c.if-not-speaks.true)),
    )

pub returns-in_err-refusal : goal.returns-in_err-refusal
returns-in_err-refusal c =
    let p = passed _ c.from_residual.result c.from_residual.ensures.1 c.in_err-refusal.ensures in
    (p.0, sym (if_refused _ _ _ p.1))

pub send_all-requires : goal.send_all-requires
send_all-requires c = let h = messages_accepted _ _ _ _ (sym c.in_ok-refusal.ensures) in (h.0, sym h.1)

pub returns : goal.returns
returns c =
    let a = c.args in
    let e = sym c.in_ok-refusal.ensures in
    (sym e, c.send_all.ensures ∙ ap (λ (s : Bool). points_to_all a.n a.m s a.bytes) (sym (c.if-not-speaks.false)) ∙ sym (if_done _ _ _ e))
