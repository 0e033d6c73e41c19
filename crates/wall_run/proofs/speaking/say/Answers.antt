-- `speaking::say` meets its contract.
use Rattle.std.proofs.Common.{refl, List, ℕ, take, sym, ap, ◌∙◌}
use Rattle.wall_run.specs.Answered.{left}
use Rattle.agreement.specs.Calls.{speak}
use Rattle.sheet.specs.Sheet.{columns}
use Rattle.wall_run.specs.Run.{spoken, words}
use Rattle.wall_run.specs.Speaking.{not_said, all_said}
use Rattle.wall_run.proofs.speaking.say.Goals as goal

pub returns-then-not-sound : goal.returns-then-not-sound
unfolding spoken words
returns-then-not-sound c =
    let not_sound = sym c.sound.ensures ∙ c.if-not-sound.true in
    (rw not_sound refl, rw not_sound (sym (not_said _ _ _ c.requires.2)))

pub returns : goal.returns
unfolding spoken words
returns c =
    let a = c.args in
    let len = c.of_one-len.ensures in
    let blank = c.requires.2 in
    let is_sound = sym c.sound.ensures ∙ c.if-not-sound.false in
    (rw is_sound (c.unwrap_or.ensures ∙ left _ _ _ c.speak.ensures.0 ∙ ap (λ (l : List ℕ). (speak a.column l).column) (ap (λ (k : ℕ). take k a.part.now) len ∙ blank)), rw is_sound (all_said a.column (columns a.sheet.now) a.width c.of_one-len.result a.part.now c.speak.new.out len blank c.speak.ensures.1))
