-- `places` meets its contract.
use Rattle.std.proofs.Common.{add-one}
use Rattle.decoder.proofs.places.Goals as goal

pub returns : goal.returns
returns c = (
  c.next-a.ensures.0,
  (rw add-one at c.next-b.ensures.0, (rw add-one at c.next-c.ensures.0, (rw add-one at c.next-d.ensures.0, tt))),
)
