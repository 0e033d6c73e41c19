-- `decoding::joined` meets its contract.
use Rattle.std.proofs.Common.{rules, arith}
use Rattle.std.proofs.iter.Serving.{serving}
use Rattle.lists.specs.Library.{list_of_at}
use Rattle.dissemination.proofs.decoding.joined.Goals as goal

pub from_fn-requires : goal.from_fn-requires
from_fn-requires c = grind (serving, arith)

pub returns : goal.returns
returns c = list_of_at _ _ 0 _ c.from_fn.ensures.items.long (λ i h. let k = c.from_fn.ensures.items.at i 0 h in search rules)
