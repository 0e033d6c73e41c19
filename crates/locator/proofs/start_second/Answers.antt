-- `start_second` meets its contract.
use Rattle.std.proofs.Common.{rules}
use Rattle.lists.specs.Library.{list_of_at}
use Rattle.locator.specs.Locator.{second_at}
use Rattle.locator.proofs.start_second.Goals as goal

pub returns : goal.returns
unfolding second_at
returns c = list_of_at _ _ 0 _ c.from_fn.ensures.items.long (λ i h. let k = c.from_fn.ensures.items.at i 0 h in search rules)
