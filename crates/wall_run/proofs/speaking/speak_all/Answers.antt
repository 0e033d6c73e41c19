-- `speaking::speak_all` meets its contract.
use Rattle.std.proofs.Common.{sym, ap, arith, ◌∙◌, ◌++◌, ℕ, ◌+◌, ◌-◌, ◌*◌, ◌≤◌, ◌<◌, length, take, drop, get_or}
use Rattle.std.proofs.lemmas.List.{length-replicate}
use Rattle.lists.specs.Lists.{list_of}
use Rattle.messages.specs.Messages.{said}
use Rattle.agreement.specs.declared.Column.{Column}
use Rattle.field.specs.Field.{blank}
use Rattle.lists.specs.Entries.{get_d_within}
use Rattle.lists.specs.Loops.{filled_none, filled_more, filled_read, filled_part, rowed_none, rowed_more, rowed_room, rowed_done}
use Rattle.agreement.specs.Calls.{no_column}
use Rattle.sheet.specs.Sheet.{columns}
use Rattle.wall_run.specs.Run.{column_at, turned, each, spoken, words, words_of, mail}
use Rattle.wall_run.specs.Speaking.{blank_part}
use Rattle.wall_run.proofs.speaking.speak_all.Goals as goal

pub loop-j-init : goal.loop-j-init
loop-j-init c =
    let s = c.requires in
    (filled_none _ _ _ (omega (arith, s.few, c.well_formed.1.1.0.1.0.1)), rowed_none _ _ _ _ (sym (ap length s.blank_all ∙ length-replicate _ blank)))

pub say-requires : goal.say-requires
say-requires c =
    let s = c.requires in
    let inside : c.loop-j.j < columns c.args.sheet.now = omega (arith, c.columns-n.ensures) in
    let at = c.of_many-at.ensures in
    (omega (arith, s.few), rowed_room _ _ _ _ _ _ _ c.loop-j.invariant.1 inside at, blank_part _ _ _ _ _ _ _ s.blank_all c.loop-j.invariant.1 inside at)

pub loop-j-preserved : goal.loop-j-preserved
unfolding turned words_of column_at
loop-j-preserved c =
    let a = c.args in
    let j = c.loop-j.j in
    let inside : j < columns a.sheet.now = omega (arith, c.columns-n.ensures) in
    let so_far = c.loop-j.invariant.0 in
    let read = get_d_within c.loop-j.wall j _ no_column (omega (arith, so_far.same, so_far.size)) ∙ filled_read _ _ _ _ j no_column so_far in
    let w = columns a.sheet.now * a.width in
    let part = take (length c.loop-j.mail - c.of_many-at.result) (drop c.of_many-at.result c.loop-j.mail) in
    (filled_more _ _ _ _ _ _ so_far inside (c.say.ensures.0 ∙ ap (spoken a.sheet.now a.width (j + 1)) read), rowed_more _ _ _ _ _ _ _ _ c.loop-j.invariant.1 inside c.of_many-at.ensures (c.say.ensures.1 ∙ ap (λ (x : Column). list_of (said (words a.sheet.now a.width (j + 1) x)) w ++ drop w part) (read ∙ ap (λ (k : ℕ). get_or a.wall k no_column) {x = j} {y = j + 1 - 1} (omega arith))))

pub returns : goal.returns
unfolding each mail
returns c =
    let over : columns c.args.sheet.now ≤ c.loop-j.j = omega (arith, c.columns-n.ensures) in
    (filled_part _ _ _ _ _ c.loop-j.invariant.0 over, rowed_done _ _ _ _ _ _ c.loop-j.invariant.1 over)
