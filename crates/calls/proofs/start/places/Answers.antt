-- `start::places` meets its contract.
use Rattle.std.proofs.Common.{rules, get_or}
use Rattle.lists.specs.Lists.{list_of}
use Rattle.lists.specs.Library.{list_of_made}
use Rattle.block.specs.Block.{part}
use Rattle.calls.proofs.start.places.Goals as goal

pub returns : goal.returns
unfolding part list_of
returns c = list_of_made _ _ (λ p. get_or c.args.bytes.now p 0) _ 0 (λ i y q k. search rules) _ c.from_fn.ensures.items
