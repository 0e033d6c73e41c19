-- `speak` meets its contract.
use Rattle.std.proofs.Common.{sym, ◌∙◌, refl}
use Rattle.rounds.specs.Ready.{answered_refused, answered_done}
use Rattle.calls.specs.Answers.{speak_refused, speak_said}
use Rattle.calls.proofs.speak.Goals as goal

pub returns-in_err-to_speak : goal.returns-in_err-to_speak
returns-in_err-to_speak c = speak_refused _ _ _ c.from_residual.ensures.1 _ c.in_err-to_speak.ensures

pub returns-in_err-say : goal.returns-in_err-say
returns-in_err-say c =
    let e = rw (c.kind_in-kind.ensures, c.round_of-round.ensures) at c.in_err-say.ensures in
    let said = speak_said _ _ (sym c.in_ok-to_speak.ensures) in
    (answered_refused _ _ _ c.from_residual-in_err-say.ensures.1 e.0 _ ∙ said.0, e.1 ∙ said.1)

pub returns : goal.returns
returns c =
    let e = rw (c.kind_in-kind.ensures, c.round_of-round.ensures) at c.in_ok-say.ensures in
    let said = speak_said _ _ (sym c.in_ok-to_speak.ensures) in
    rw c.round_of-round.ensures (answered_done _ e.0 _ _ refl ∙ said.0, e.1 ∙ said.1)
