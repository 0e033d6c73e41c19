-- `heard_of_all` meets its contract.
use Rattle.std.proofs.Common.{rules}
use Rattle.lists.specs.Library.{list_of_at}
use Rattle.messages.specs.Messages.{heard_of_all}
use Rattle.messages.proofs.heard_of_all.Goals as goal

pub returns : goal.returns
unfolding heard_of_all
returns c = list_of_at _ _ 0 _ c.from_fn.ensures.items.long (λ i h. let k = c.from_fn.ensures.items.at i 0 h in search rules)
