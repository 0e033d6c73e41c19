-- `playing::played` meets its contract.
use Rattle.std.proofs.Common.{ap₂, ◌∙◌, List}
use Rattle.agreement.specs.declared.Column.{Column}
use Rattle.sheet.specs.Sheet.{columns}
use Rattle.wall_run.specs.Run.{each, heard, played}
use Rattle.wall_run.proofs.playing.played.Goals as goal

pub returns : goal.returns
unfolding played
returns c =
    let a = c.args in
    c.listen_all.ensures ∙ ap₂ {C = List Column} (λ mail wall. each (columns a.sheet.now) (heard a.sheet.now a.round mail) wall) c.speak_all-spoken.ensures.1 c.speak_all-spoken.ensures.0
