-- `at_place` meets its contract.
use Rattle.messages.specs.Messages.{said, from as at}
use Rattle.decoder.proofs.at_place.Goals as goal

pub returns : goal.returns
unfolding said at
returns c = rw c.saturating_sub.ensures at c.value.ensures
