-- `rise` meets its contract.
use Rattle.std.proofs.Common.{lt-ltb, le-ltb}
use Rattle.decoder.proofs.rise.Goals as goal

pub returns-then-k-gt1 : goal.returns-then-k-gt1
returns-then-k-gt1 c = rw (lt-ltb _ _ c.if-k-gt1.true, c.subtract.ensures)

pub returns : goal.returns
returns c = rw (le-ltb _ _ c.if-k-gt1.false)
