-- `answers::listen` meets its contract.
use Rattle.std.proofs.Common.{sym, ap, ◌∙◌}
use Rattle.sizes.proofs.Refusals.{passed}
use Rattle.agreement.specs.declared.Column.{Column}
use Rattle.agreement.specs.Calls.{listen}
use Rattle.column_bytes.specs.Calls.{listen_answer, listen_state}
use Rattle.column_bytes.proofs.Laws.{fits_state, told_bad, told_left}
use Rattle.column_bytes.proofs.answers.listen.Goals as goal

pub returns-in_err-check : goal.returns-in_err-check
unfolding listen_answer listen_state
returns-in_err-check c =
    let bad = passed _ c.from_residual.result c.from_residual.ensures.1 c.in_err-check.ensures in
    told_left _ _ _ (told_bad c.args.state.now _ bad)

pub returns : goal.returns
unfolding listen_answer listen_state
returns c =
    let answered = c.listen.ensures ∙ ap (λ (k : Column). listen k c.args.inbox.now) c.decode.ensures in
    rw (answered, fits_state _ _ (sym c.in_ok-check.ensures)) at (c.keep.ensures c.decode.result)
