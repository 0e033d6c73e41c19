-- `reading::bytes` meets its contract.
use Rattle.std.proofs.Common.{rules}
use Rattle.lists.specs.Library.{list_of_made}
use Rattle.state_bytes.specs.Layout.{byte_from}
use Rattle.state_bytes.proofs.reading.bytes.Goals as goal

pub returns : goal.returns
unfolding byte_from
returns c = list_of_made _ _ _ _ 0 (λ i y q k. search rules) _ c.from_fn.ensures.items
