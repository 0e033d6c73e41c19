-- `listening::hear` meets its contract.
use Rattle.std.proofs.Common.{refl, List, ℕ, sym, ap, ◌∙◌}
use Rattle.wall_run.specs.Run.{heard}
use Rattle.messages.proofs.Laws.{if_done}
use Rattle.sizes.proofs.Refusals.{there}
use Rattle.wall_run.specs.Answered.{left}
use Rattle.agreement.specs.Calls.{listen}
use Rattle.delivery.specs.Refusals.{delivers}
use Rattle.wall_run.proofs.listening.hear.Goals as goal

pub returns-then-not-sound : goal.returns-then-not-sound
unfolding heard
returns-then-not-sound c = rw (sym c.sound.ensures ∙ c.if-not-sound.true) refl

pub unwrap-requires : goal.unwrap-requires
unwrap-requires c = there _ (c.deliver.ensures.0 ∙ delivers _ _ _ _ c.requires.0 c.requires.1)

pub returns : goal.returns
unfolding heard
returns c =
    let a = c.args in
    let got = c.deliver.ensures.1 ∙ if_done _ _ _ (delivers _ _ _ _ c.requires.0 c.requires.1) in
    rw (sym c.sound.ensures ∙ c.if-not-sound.false) (c.unwrap_or.ensures ∙ left _ _ _ c.listen.ensures ∙ ap (λ (l : List ℕ). (listen a.column l).column) got)
