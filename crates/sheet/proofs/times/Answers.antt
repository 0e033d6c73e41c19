-- `times` meets its contract.
use Rattle.std.proofs.Common.{arith, mul-le-mul}
use Rattle.sheet.proofs.times.Goals as goal

pub overflow_mul-result : goal.overflow_mul-result
overflow_mul-result c = record { fits = omega (arith, mul-le-mul {n₁ = c.args.a} {m₁ = c.args.b} {n₂ = 65535} {m₂ = 65535} (omega arith) (omega arith)) }
