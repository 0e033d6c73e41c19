-- `text::Text::put_columns` meets its contract.
use Rattle.listing.specs.Writing.{Joins}
use Rattle.listing.specs.Listing.{line_at}
use Rattle.listing.proofs.text.Text.put_columns.Given as goal

abbrev pub invariant-loop-i : goal.invariant-loop-i
invariant-loop-i l = Joins (line_at l.m l.entries) l.n l.initial.self l.self l.i
