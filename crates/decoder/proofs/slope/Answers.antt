-- `slope` meets its contract.
use Rattle.decoder.proofs.slope.Goals as goal

pub returns-then-wanted : goal.returns-then-wanted
returns-then-wanted c = rw (c.if-wanted.true, c.multiply.ensures, c.inverse.ensures, c.subtract-run.ensures, c.subtract-rise.ensures)
