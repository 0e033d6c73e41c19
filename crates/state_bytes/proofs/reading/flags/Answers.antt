-- `reading::flags` meets its contract.
use Rattle.std.proofs.Common.{rules, false}
use Rattle.lists.specs.Library.{list_of_made}
use Rattle.state_bytes.specs.Layout.{flag_from}
use Rattle.state_bytes.proofs.reading.flags.Goals as goal

pub returns : goal.returns
unfolding flag_from
returns c = list_of_made _ _ _ _ false (λ i y q k. search rules) _ c.from_fn.ensures.items
