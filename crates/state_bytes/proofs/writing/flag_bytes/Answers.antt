-- `writing::flag_bytes` meets its contract.
use Rattle.std.proofs.Common.{rules}
use Rattle.lists.specs.Library.{list_of_made}
use Rattle.state_bytes.specs.Layout.{flag_byte}
use Rattle.state_bytes.proofs.writing.flag_bytes.Goals as goal

pub returns : goal.returns
unfolding flag_byte
returns c = list_of_made _ _ _ _ 0 (λ i y q k. search rules) _ c.from_fn.ensures.items
