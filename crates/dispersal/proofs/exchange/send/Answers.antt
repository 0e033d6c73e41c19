-- `exchange::send` meets its contract.
use Rattle.std.proofs.Common.{sym, ◌∙◌}
use Rattle.sizes.proofs.Refusals.{passed}
use Rattle.messages.proofs.Laws.{if_refused, if_done, accepted as messages_accepted}
use Rattle.dispersal.proofs.exchange.send.Goals as goal

pub returns-in_err-refusal : goal.returns-in_err-refusal
returns-in_err-refusal c =
    let p = passed _ c.from_residual.result c.from_residual.ensures.1 c.in_err-refusal.ensures in
    (p.0, sym (if_refused _ _ _ p.1))

pub send_all-requires : goal.send_all-requires
send_all-requires c = let h = messages_accepted _ _ _ _ (sym c.in_ok-refusal.ensures) in (h.0, sym h.1)

pub returns : goal.returns
returns c = let e = c.in_ok-refusal.ensures in (e, c.send_all.ensures ∙ sym (if_done _ _ _ (sym e)))
