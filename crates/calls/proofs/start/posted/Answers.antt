-- `start::posted` meets its contract.
use Rattle.std.proofs.Common.{refl, eq-eqb, ne_eqb}
use Rattle.lists.specs.Lists.{list_of}
use Rattle.block.specs.Block.{part}
use Rattle.calls.proofs.start.posted.Goals as goal

pub returns-then-own-poster : goal.returns-then-own-poster
returns-then-own-poster c = rw (c.places.ensures, eq-eqb _ _ c.if-own-poster.true) refl

pub returns : goal.returns
unfolding part list_of
returns c = rw (ne_eqb _ _ c.if-own-poster.false) refl
