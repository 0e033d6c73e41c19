-- `answers::speak` meets its contract.
use Rattle.std.proofs.Common.{sym, ap, refl, ◌∙◌}
use Rattle.sizes.proofs.Refusals.{passed}
use Rattle.agreement.specs.declared.Column.{Column}
use Rattle.agreement.specs.Calls.{speak, written}
use Rattle.column_bytes.specs.Calls.{speak_answer, speak_state, speak_out}
use Rattle.column_bytes.proofs.Laws.{no_state, is_state_lem, fits_state, told_bad, told_left}
use Rattle.column_bytes.proofs.answers.speak.Goals as goal

pub returns-in_err-check : goal.returns-in_err-check
unfolding speak_answer speak_state speak_out
returns-in_err-check c =
    let state = c.args.state.now in
    let bad = passed _ c.from_residual.result c.from_residual.ensures.1 c.in_err-check.ensures in
    let (answer, left) = told_left _ _ _ (told_bad state _ bad) in
    (answer, left, rw (no_state state bad.1) refl)

pub returns : goal.returns
unfolding speak_answer speak_state speak_out
returns c =
    let a = c.args in
    let s = sym c.in_ok-check.ensures in
    let column = c.decode.ensures in
    let answered = c.speak.ensures.0 ∙ ap (λ (k : Column). speak k a.out.now) column in
    let (answer, state) = rw (answered, fits_state _ _ s) at (c.keep.ensures c.decode.result) in
    (answer, state, rw (is_state_lem _ s) (c.speak.ensures.1 ∙ ap (λ (k : Column). written k a.out.now) column))
