-- `reading::words` meets its contract.
use Rattle.std.proofs.Common.{rules}
use Rattle.lists.specs.Library.{list_of_made}
use Rattle.messages.specs.Messages.{word}
use Rattle.state_bytes.specs.Layout.{word_from}
use Rattle.state_bytes.proofs.reading.words.Goals as goal

pub returns : goal.returns
unfolding word_from word
returns c = list_of_made _ _ _ _ 0 (λ i y q k. search rules) _ c.from_fn.ensures.items
