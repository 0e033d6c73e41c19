-- `answers::keep` meets its contract.
use Rattle.sizes.proofs.Refusals.{passed}
use Rattle.std.proofs.Common.{length, refl}
use Rattle.agreement.specs.Calls.{refusal_of}
use Rattle.state_bytes.specs.Layout.{state_length}
use Rattle.column_bytes.proofs.Laws.{told_before, told_left}
use Rattle.column_bytes.proofs.answers.keep.Goals as goal

pub returns-in_err-column : goal.returns-in_err-column
unfolding refusal_of
returns-in_err-column c = λ before.
    let refused = passed _ c.from_residual.result c.from_residual.ensures.1 refl in
    rw c.in_err-column.was (told_left _ _ _ (told_before _ 1 state_length (length c.args.state.now) refused))

pub returns : goal.returns
unfolding refusal_of
returns c = λ before. rw c.in_ok-column.was c.encode.ensures
