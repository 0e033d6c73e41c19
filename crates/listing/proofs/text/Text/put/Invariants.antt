-- `text::Text::put` meets its contract.
use Rattle.std.proofs.Common.{length}
use Rattle.listing.specs.Writing.{Joins}
use Rattle.listing.specs.Laws.{letter}
use Rattle.listing.proofs.text.Text.put.Given as goal

abbrev pub invariant-loop-byte : goal.invariant-loop-byte
invariant-loop-byte l = Joins (letter l.word) (length l.word) l.initial.self l.self l.byte-index
