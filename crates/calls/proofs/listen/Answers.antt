-- `listen` meets its contract.
use Rattle.std.proofs.Common.{sym, arith, ◌∙◌}
use Rattle.calls.specs.Answers.{may_listen, listen_refused, listen_heard}
use Rattle.calls.proofs.listen.Goals as goal

pub returns-in_err-to_listen : goal.returns-in_err-to_listen
returns-in_err-to_listen c = listen_refused _ _ _ c.from_residual.ensures.1 _ c.in_err-to_listen.ensures

pub overflow_add-next : goal.overflow_add-next
overflow_add-next c =
    let t = may_listen _ (sym c.in_ok-to_listen.ensures) in
    record { fits = omega (arith, c.round_of-round.ensures, t.few) }

pub returns : goal.returns
returns c = c.hear.ensures ∙ rw (c.kind_in-kind.ensures, c.round_of-round.ensures) (listen_heard _ _ (sym c.in_ok-to_listen.ensures))
