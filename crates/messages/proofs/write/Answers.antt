-- `write` meets its contract.
use Rattle.std.proofs.Common.{◌∙◌, refl, sym, arith, length-take-le}
use Rattle.field.specs.Field.{blank}
use Rattle.lists.specs.Library.{list_of_take}
use Rattle.messages.specs.Messages.{said}
use Rattle.messages.proofs.Laws.{front, written_fits, has_room}
use Rattle.messages.proofs.write.Goals as goal

pub returns-in-Some : goal.returns-in-Some
unfolding said
returns-in-Some c = let a = c.args in
    let got = c.in-Some.ensures.lookup.0 in
    let long = length-take-le a.w a.message.now got.1 in
    let all = list_of_take a.message.now blank a.w got.1 in
    (sym (has_room _ _ (omega arith)), rw (got.2, front a.message.now a.w) at c.copy.ensures ∙ rw long (sym (written_fits a.w a.message.now a.part.now (omega arith) ∙ rw all refl)))
