-- `arrays` meets its contract.
use Rattle.std.proofs.Common.{arith, mul-le-mul}
use Rattle.sheet.specs.Sheet.{arrays}
use Rattle.sheet.proofs.arrays.Goals as goal

pub overflow_add-result-2 : goal.overflow_add-result-2
overflow_add-result-2 c = omega (arith, c.place.ensures, mul-le-mul {n₁ = c.args.n} {m₁ = c.args.m} {n₂ = 255} {m₂ = 255} (omega arith) (omega arith))

pub returns : goal.returns
unfolding arrays
returns c = rw c.place.ensures (omega arith)
