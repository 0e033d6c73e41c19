-- `numbers::poster_of` meets its contract.
use Rattle.listing.proofs.Digits.{told}
use Rattle.listing.proofs.numbers.poster_of.Goals as goal

pub returns : goal.returns
returns c = told _ c.read.result _ c.read.ensures c.unwrap_or.ensures c.unwrap_or.type_inv
