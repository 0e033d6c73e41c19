-- `sound_entry` meets its contract.
use Rattle.std.proofs.Common.{◌∙◌}
use Rattle.calls.specs.Answers.{told_entry}
use Rattle.calls.proofs.sound_entry.Goals as goal

pub returns : goal.returns
returns c = c.sound_entry.ensures ∙ told_entry _ _ c.asked.ensures
