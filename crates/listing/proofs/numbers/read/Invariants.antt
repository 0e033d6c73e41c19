-- `numbers::read` meets its contract.
use Rattle.std.proofs.Common.{◌≡◌}
use Rattle.listing.specs.Number.{read_to}
use Rattle.listing.proofs.numbers.read.Given as goal

abbrev pub invariant-loop-letter : goal.invariant-loop-letter
invariant-loop-letter l = l.v ≡ read_to l.text l.letter-index
