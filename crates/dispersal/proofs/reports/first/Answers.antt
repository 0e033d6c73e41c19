-- `reports::first` meets its contract.
use Rattle.std.proofs.Common.{◌-◌, arith, le-leb}
use Rattle.std.proofs.lemmas.Bool.{lt-leb}
use Rattle.lists.specs.Lists.{count}
use Rattle.sizes.specs.Sizes.{faults}
use Rattle.sizes.proofs.Laws.{faults_le}
use Rattle.dispersal.specs.Dispersal.{agrees, first_quorum, first_report}
use Rattle.dispersal.specs.Laws.{both_self}
use Rattle.dispersal.proofs.reports.first.Goals as goal

pub overflow_sub-n : goal.overflow_sub-n
overflow_sub-n c = omega (arith, c.faults.ensures, faults_le c.args.n)

pub returns-then-n-faults : goal.returns-then-n-faults
unfolding first_report first_quorum
returns-then-n-faults c = let a = c.args in
    simp (le-leb (a.n - faults a.n) (count (agrees a.agreements) a.n) (omega (arith, c.if-n-faults.true, c.faults.ensures, c.in_both.ensures, both_self a.agreements a.n)))

pub returns-else-n-faults : goal.returns-else-n-faults
unfolding first_report first_quorum
returns-else-n-faults c = let a = c.args in
    simp (lt-leb (a.n - faults a.n) (count (agrees a.agreements) a.n) (omega (arith, c.if-n-faults.false, c.faults.ensures, c.in_both.ensures, both_self a.agreements a.n)))
