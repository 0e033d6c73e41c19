-- `reading::whole` meets its contract.
use Rattle.std.proofs.Common.{rules}
use Rattle.lists.specs.Library.{list_of_made}
use Rattle.state_bytes.specs.Layout.{whole}
use Rattle.state_bytes.proofs.reading.whole.Goals as goal

pub returns-then-state-lt-SIZE : goal.returns-then-state-lt-SIZE
unfolding whole
returns-then-state-lt-SIZE c = list_of_made _ _ _ _ 0 (λ i y q k. search rules) _ c.from_fn.ensures.items

pub returns : goal.returns
unfolding whole
returns c = list_of_made _ _ _ _ 0 (λ i y q k. search rules) _ c.from_fn-2.ensures.items
