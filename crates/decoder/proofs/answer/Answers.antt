-- `answer` meets its contract.
use Rattle.std.proofs.Common.{◌≡◌, List, ℕ, ◌+◌, arith}
use Rattle.sizes.specs.Sizes.{faults, degree}
use Rattle.decoder.specs.Exactly.{Accepts}
use Rattle.decoder.proofs.Exactly.{sizes}
use Rattle.decoder.specs.Answers.{Given}
use Rattle.decoder.proofs.Answers.{too_few}
use Rattle.decoder.proofs.answer.Goals as goal

-- the sizes that the ways to an answer are handed
given : (n t k : ℕ) (points : List ℕ) → Accepts n points → t ≡ faults n → k ≡ degree n + 1 → Given n t k points
given n t k points a e f = record { accepts = a; faults_is = e; size_is = f }

pub overflow_sub-need : goal.overflow_sub-need
overflow_sub-need c =
    let s = sizes _ _ c.requires in
    omega (arith, c.faults-t.ensures)

pub returns-then-present-need : goal.returns-then-present-need
returns-then-present-need c = too_few _ _ c.requires (omega (arith, c.present.ensures, c.faults-t.ensures))

pub by_windows-requires : goal.by_windows-requires
by_windows-requires c = (given _ _ _ _ c.requires c.faults-t.ensures (omega (arith, c.degree-d.ensures)), omega arith)

pub by_windows-requires-in-1 : goal.by_windows-requires-in-1
by_windows-requires-in-1 c = (given _ _ _ _ c.requires c.faults-t.ensures (omega (arith, c.degree-d.ensures)), omega arith)

pub overflow_add-d : goal.overflow_add-d
overflow_add-d c =
    let s = sizes _ _ c.requires in
    omega (arith, c.degree-d.ensures)

pub by_locator-requires : goal.by_locator-requires
by_locator-requires c = given _ _ _ _ c.requires c.faults-t.ensures (omega (arith, c.degree-d.ensures))
