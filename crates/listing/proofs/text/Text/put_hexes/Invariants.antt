-- `text::Text::put_hexes` meets its contract.
use Rattle.listing.specs.Writing.{Joins}
use Rattle.listing.specs.Listing.{hex_at}
use Rattle.listing.proofs.text.Text.put_hexes.Given as goal

abbrev pub invariant-loop-p : goal.invariant-loop-p
invariant-loop-p l = Joins (hex_at l.bytes) l.m l.initial.self l.self l.p
