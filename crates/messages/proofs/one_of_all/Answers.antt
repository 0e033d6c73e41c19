-- `one_of_all` meets its contract.
use Rattle.std.proofs.Common.{◌≡◌, ◌∙◌, ◌-◌, rules}
use Rattle.lists.specs.Library.{list_of_padded}
use Rattle.field.specs.Field.{blank}
use Rattle.messages.specs.Messages.{said, laid}
use Rattle.messages.proofs.Laws.{one_of_others, one_of_own}
use Rattle.messages.proofs.one_of_all.Goals as goal

pub returns-then-contains : goal.returns-then-contains
unfolding said laid
returns-then-contains c = let a = c.args in
    let lies : c.copy.new.part ≡ laid 31 a.inbox.now = c.copy.ensures ∙ list_of_padded a.inbox.now blank 31 (search rules) in
    rw lies (one_of_own a.n a.own a.mine.now a.inbox.now c.requires.1 (a.own - 1) _ (search rules) (search rules) c.requires.0 c.value.ensures)

pub returns-else-contains : goal.returns-else-contains
unfolding said laid
returns-else-contains c = let a = c.args in
    c.copy.ensures ∙ list_of_padded a.inbox.now blank 31 (search rules) ∙ one_of_others _ _ a.mine.now _ c.requires.1 (search rules)
