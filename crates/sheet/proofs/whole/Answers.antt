-- `whole` meets its contract.
use Rattle.std.proofs.Common.{arith}
use Rattle.sheet.specs.Laws.{arrays_le}
use Rattle.sheet.specs.Sheet.{whole}
use Rattle.sheet.proofs.whole.Goals as goal

pub overflow_add-result : goal.overflow_add-result
overflow_add-result c = omega (arith, c.values.ensures.1, c.arrays.ensures, arrays_le c.args.n c.args.m (omega arith) (omega arith))

pub returns : goal.returns
unfolding whole
returns c = rw (c.arrays.ensures, c.values.ensures.0) (omega arith)
