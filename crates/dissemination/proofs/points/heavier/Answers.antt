-- `points::heavier` meets its contract.
use Rattle.std.proofs.Common.{arith, lt-ltb, le-ltb}
use Rattle.dissemination.proofs.points.heavier.Goals as goal

pub returns-then-t-c : goal.returns-then-t-c
returns-then-t-c c = simp (lt-ltb c.args.t c.args.c (omega (arith, c.if-t-c.true)))

pub returns-else-t-c : goal.returns-else-t-c
returns-else-t-c c = simp (le-ltb c.args.t c.args.c (omega (arith, c.if-t-c.false)))
