-- `reports::grade` meets its contract.
use Rattle.std.proofs.Common.{sym, arith, le-leb, ◌∙◌, ◌+◌, ◌*◌}
use Rattle.std.proofs.lemmas.Bool.{lt-leb}
use Rattle.sizes.specs.Sizes.{faults}
use Rattle.sizes.proofs.Laws.{faults_le}
use Rattle.messages.specs.Messages.{from, times}
use Rattle.dispersal.specs.Dispersal.{read_reports, grade}
use Rattle.dispersal.specs.Laws.{times_reports}
use Rattle.dispersal.proofs.reports.grade.Goals as goal

pub returns-then-not-sends_second : goal.returns-then-not-sends_second
unfolding grade
returns-then-not-sends_second c = simp (sym c.sends_second.ensures ∙ c.if-not-sends_second.true)

pub overflow_mul-faults : goal.overflow_mul-faults
overflow_mul-faults c = record { fits = omega (arith, c.faults.ensures, faults_le c.args.n) }

pub returns-then-faults-times : goal.returns-then-faults-times
unfolding grade
returns-then-faults-times c = let a = c.args in
    simp (sym c.sends_second.ensures ∙ c.if-not-sends_second.false, le-leb (2 * faults a.n + 1) (times (read_reports (from a.values)) 1 a.n) (omega (arith, c.if-faults-times.true, c.faults.ensures, c.times.ensures, times_reports (from a.values) a.n)))

pub returns-else-faults-times : goal.returns-else-faults-times
unfolding grade
returns-else-faults-times c = let a = c.args in
    simp (sym c.sends_second.ensures ∙ c.if-not-sends_second.false, lt-leb (2 * faults a.n + 1) (times (read_reports (from a.values)) 1 a.n) (omega (arith, c.if-faults-times.false, c.faults.ensures, c.times.ensures, times_reports (from a.values) a.n)))
