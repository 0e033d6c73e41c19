-- `refusal` meets its contract.
use Rattle.std.proofs.Common.{refl, arith}
use Rattle.wall_run.specs.Run.{refusal}
use Rattle.protocols.proofs.Laws.{line_in_le}
use Rattle.wall_run.proofs.refusal.Goals as goal

pub overflow_cast-line_in : goal.overflow_cast-line_in
overflow_cast-line_in c = omega (arith, c.line_in.ensures, line_in_le c.args.protocol c.columns-n.result c.bytes-m.result)

pub returns : goal.returns
unfolding refusal
returns c = rw (c.refusal.ensures, c.line_in.ensures, c.beside.ensures, c.bytes-m.ensures, c.columns-n.ensures) refl
