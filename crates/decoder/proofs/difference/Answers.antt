-- `difference` meets its contract.
use Rattle.decoder.proofs.difference.Goals as goal

pub returns : goal.returns
returns c = rw (c.subtract.ensures, c.multiply.ensures)
