-- `tell` meets its contract.
use Rattle.std.specs.Prelude.{Ok, Err}
use Rattle.std.proofs.Common.{◌∙◌}
use Rattle.sizes.specs.Refusals.{Gives}
use Rattle.sizes.proofs.Refusals.{passed_on}
use Rattle.agreement.specs.Calls.{outcome_refusal}
use Rattle.agreement.specs.Entries.{sound_entry}
use Rattle.agreement.proofs.Told.{told_given}
use Rattle.calls.specs.Answers.{told_number, told_entry}
use Rattle.calls.proofs.tell.Goals as goal

pub returns-in_err-record : goal.returns-in_err-record
returns-in_err-record c =
    let why = c.in_err-record.field-0.0 in
    let a = c.args.column in
    let given = passed_on why (sound_entry a) c.from_residual.result c.from_residual.ensures.1 (told_number a (Err why) c.in_err-record.ensures) in
    record { given = given; whole = told_given a c.from_residual.result given }

pub returns : goal.returns
returns c =
    let a = c.args.column in
    let answer = Ok c.in_ok-record.record in
    let given : Gives (Ok c.sound_entry.result) (outcome_refusal a) (sound_entry a) =
    (told_number a answer c.in_ok-record.ensures, c.sound_entry.ensures ∙ told_entry a answer c.in_ok-record.ensures) in
    record { given = given; whole = told_given a (Ok c.sound_entry.result) given }
