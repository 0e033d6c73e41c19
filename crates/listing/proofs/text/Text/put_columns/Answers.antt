-- `text::Text::put_columns` meets its contract.
use Rattle.std.proofs.Common.{refl, arith}
use Rattle.listing.specs.Writing.{joins_none, joins_more, joins_done}
use Rattle.listing.specs.Listing.{column_lines}
use Rattle.listing.proofs.text.Text.put_columns.Goals as goal

pub loop-i-init : goal.loop-i-init
loop-i-init c = joins_none _ _ _

pub loop-i-preserved : goal.loop-i-preserved
loop-i-preserved c = joins_more c.loop-i.invariant (omega arith) refl c.put_line.ensures

pub returns : goal.returns
unfolding column_lines
returns c = joins_done c.loop-i.invariant (omega arith)
