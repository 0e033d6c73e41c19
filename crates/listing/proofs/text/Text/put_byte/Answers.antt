-- `text::Text::put_byte` meets its contract.
use Rattle.std.proofs.Common.{refl}
use Rattle.listing.specs.Writing.{puts_byte, puts_full}
use Rattle.listing.proofs.text.Text.put_byte.Goals as goal

pub returns-then-self : goal.returns-then-self
returns-then-self c = puts_byte _ _ _ c.if-self.true refl refl refl

pub returns-else-self : goal.returns-else-self
returns-else-self c = puts_full _ _ c.if-self.false
