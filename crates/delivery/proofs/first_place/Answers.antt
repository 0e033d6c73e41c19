-- `first_place` meets its contract.
use Rattle.std.proofs.Common.{refl, mul-le-mul, arith}
use Rattle.sheet.specs.Sheet.{arrays}
use Rattle.sheet.specs.Laws.{record_place_lem}
use Rattle.delivery.specs.Places.{place_first, place_le, placed}
use Rattle.delivery.proofs.first_place.Goals as goal

pub overflow_add-result : goal.overflow_add-result
overflow_add-result c =
    let a = c.args in
    let n = c.columns-n.result in
    let m = c.bytes-m.result in
    omega (arith, c.place.ensures, c.record_place.ensures, record_place_lem n m n, mul-le-mul {n₁ = n} {m₁ = m} {n₂ = 255} {m₂ = 255} (omega arith) (omega arith), mul-le-mul {n₁ = a.to} {m₁ = a.round.line} {n₂ = 255} {m₂ = 65535} (omega arith) (omega arith))

pub returns : goal.returns
unfolding arrays
returns c =
    let n = c.columns-n in
    let m = c.bytes-m in
    placed _ _ _ 0 _ (rw (place_first, c.place.ensures, c.record_place.ensures, record_place_lem, m.ensures, n.ensures) refl) (λ j h. place_le _ _ _ j (omega (arith, n.ensures)) (omega (arith, m.ensures)) (omega arith) (omega arith) (omega arith) h) (omega arith)
