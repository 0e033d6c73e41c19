-- `text::Text::put` meets its contract.
use Rattle.std.proofs.Common.{refl, arith}
use Rattle.listing.specs.Writing.{joins_none, joins_more, joins_done}
use Rattle.listing.specs.Laws.{letter, word_is}
use Rattle.listing.proofs.text.Text.put.Goals as goal

pub loop-byte-init : goal.loop-byte-init
loop-byte-init c = joins_none _ _ _

pub loop-byte-preserved : goal.loop-byte-preserved
unfolding letter
loop-byte-preserved c = joins_more c.loop-byte.invariant (omega arith) refl c.put_byte.ensures

pub returns : goal.returns
returns c = rw word_is at (joins_done c.loop-byte.invariant (omega arith))
