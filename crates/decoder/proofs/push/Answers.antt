-- `push` meets its contract.
use Rattle.decoder.proofs.push.Goals as goal

pub returns : goal.returns
returns c = rw (c.of.ensures, c.difference.ensures, c.difference-2.ensures, c.difference-3.ensures)
