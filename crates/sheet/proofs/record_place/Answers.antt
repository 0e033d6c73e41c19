-- `record_place` meets its contract.
use Rattle.std.proofs.Common.{arith, mul-le-mul}
use Rattle.sheet.specs.Laws.{record_place_lem}
use Rattle.sheet.proofs.record_place.Goals as goal

pub overflow_add-result-2 : goal.overflow_add-result-2
overflow_add-result-2 c = omega (arith, c.place.ensures, mul-le-mul {n₁ = c.args.i} {m₁ = c.args.m} {n₂ = 255} {m₂ = 255} (omega arith) (omega arith))

pub returns : goal.returns
returns c = rw (record_place_lem, c.place.ensures) (omega arith)
