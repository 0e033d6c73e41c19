-- `values` meets its contract.
use Rattle.std.proofs.Common.{arith, mul-le-mul}
use Rattle.sheet.proofs.values.Goals as goal

pub overflow_cast-lines : goal.overflow_cast-lines
overflow_cast-lines c = omega (arith, c.place-lines.ensures, mul-le-mul {n₁ = c.args.u} {m₁ = c.args.n} {n₂ = 255} {m₂ = 255} (omega arith) (omega arith))

pub returns : goal.returns
returns c =
    let a = c.args in
    let lines = mul-le-mul {n₁ = a.u} {m₁ = a.n} {n₂ = 255} {m₂ = 255} (omega arith) (omega arith) in
    let most = mul-le-mul {n₁ = c.place-lines.result} {m₁ = a.line} {n₂ = 65535} {m₂ = 65535} (omega (arith, c.place-lines.ensures, lines)) (omega arith) in
    (rw (c.times.ensures, c.place-lines.ensures) (omega arith), omega (arith, c.times.ensures, most))
