-- `entries::entry` meets its contract.
use Rattle.std.proofs.Common.{sym, ap, ◌∙◌}
use Rattle.agreement.specs.Entries.{mark_only}
use Rattle.wall_run.specs.Run.{entry_of}
use Rattle.wall_run.proofs.entries.entry.Goals as goal

pub returns-then-sound : goal.returns-then-sound
unfolding entry_of
returns-then-sound c = rw (sym c.sound.ensures ∙ c.if-sound.true) c.sound_entry.ensures

pub returns : goal.returns
unfolding entry_of
returns c = rw (sym c.sound.ensures ∙ c.if-sound.false) (c.mark_only.ensures ∙ ap mark_only c.mark.ensures)
