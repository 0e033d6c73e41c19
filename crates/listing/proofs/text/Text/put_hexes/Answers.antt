-- `text::Text::put_hexes` meets its contract.
use Rattle.std.proofs.Common.{ap, arith}
use Rattle.listing.specs.Writing.{joins_none, joins_more, joins_done}
use Rattle.listing.specs.Listing.{hex, hex_at, hexes}
use Rattle.listing.proofs.text.Text.put_hexes.Goals as goal

pub loop-p-init : goal.loop-p-init
loop-p-init c = joins_none _ _ _

pub loop-p-preserved : goal.loop-p-preserved
unfolding hex_at
loop-p-preserved c = joins_more c.loop-p.invariant (omega arith) (ap hex c.byte.ensures) c.put_hex.ensures

pub returns : goal.returns
unfolding hexes
returns c = joins_done c.loop-p.invariant (omega arith)
