-- `answers::outcome` meets its contract.
use Rattle.std.proofs.Common.{sym, ap, length, ◌∙◌}
use Rattle.sizes.proofs.Refusals.{passed}
use Rattle.messages.proofs.Laws.{accepted, if_done, refused_behind}
use Rattle.agreement.specs.Calls.{outcome_refusal}
use Rattle.agreement.specs.Entries.{sound_entry}
use Rattle.state_bytes.specs.Entry.{entry_length, entry_bytes}
use Rattle.state_bytes.specs.Writing.{put_whole}
use Rattle.column_bytes.specs.Calls.{outcome_answer, outcome_out}
use Rattle.column_bytes.proofs.Laws.{of_state, told_bad, told_own, told_before, told_left}
use Rattle.column_bytes.proofs.answers.outcome.Goals as goal

pub returns-in_err-check : goal.returns-in_err-check
unfolding outcome_answer outcome_out
returns-in_err-check c =
    let a = c.args in
    let bad = passed _ c.from_residual.result c.from_residual.ensures.1 c.in_err-check.ensures in
    told_left _ _ _ (told_before _ 1 entry_length (length a.out.now) (told_bad a.state.now _ bad))

pub returns-in_err-entry : goal.returns-in_err-entry
unfolding outcome_answer outcome_out
returns-in_err-entry c =
    let a = c.args in
    let own = passed _ c.from_residual-in_err-entry.result c.from_residual-in_err-entry.ensures.1 (c.in_err-entry.ensures.given.0 ∙ ap outcome_refusal c.decode.ensures) in
    told_left _ _ _ (told_before _ 1 entry_length (length a.out.now) (told_own a.state.now _ (sym c.in_ok-check.ensures) own))

pub returns-in_err-refusal : goal.returns-in_err-refusal
unfolding outcome_answer outcome_out
returns-in_err-refusal c =
    let a = c.args in
    let done = c.in_ok-entry.ensures.given.0 ∙ ap outcome_refusal c.decode.ensures ∙ sym (of_state a.state.now _ (sym c.in_ok-check.ensures)) in
    let long = c.in_err-refusal.ensures ∙ sym (refused_behind _ 1 entry_length (length a.out.now) done) in
    told_left _ _ _ (passed _ c.from_residual-in_err-refusal.result c.from_residual-in_err-refusal.ensures.1 long)

pub returns : goal.returns
unfolding outcome_answer outcome_out
returns c =
    let a = c.args in
    let done = c.in_ok-entry.ensures.given.0 ∙ ap outcome_refusal c.decode.ensures ∙ sym (of_state a.state.now _ (sym c.in_ok-check.ensures)) in
    let e = c.in_ok-refusal.ensures ∙ sym (refused_behind _ 1 entry_length (length a.out.now) done) in
    let entry = c.in_ok-entry.ensures.given.1 ∙ ap sound_entry c.decode.ensures in
    (e, c.put.ensures.0 ∙ put_whole _ a.out.now (c.put.ensures.1 ∙ sym (accepted _ _ _ _ (sym c.in_ok-refusal.ensures)).1) ∙ ap entry_bytes entry ∙ sym (if_done _ _ _ (sym e)))
