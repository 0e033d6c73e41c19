-- `reports::sends_second` meets its contract.
use Rattle.std.proofs.Common.{refl, ◌∙◌, ◌-◌, arith, le-leb}
use Rattle.std.proofs.lemmas.Bool.{lt-leb}
use Rattle.lists.specs.Lists.{count}
use Rattle.sizes.specs.Sizes.{faults}
use Rattle.sizes.proofs.Laws.{faults_le}
use Rattle.dispersal.specs.Dispersal.{agrees, reported, both, second_quorum}
use Rattle.dispersal.proofs.reports.sends_second.Goals as goal

pub overflow_sub-n : goal.overflow_sub-n
overflow_sub-n c = omega (arith, c.faults.ensures, faults_le c.args.n)

pub returns-then-n-faults : goal.returns-then-n-faults
unfolding second_quorum
returns-then-n-faults c = let a = c.args in
    c.flag_of.ensures ∙ simp (le-leb (a.n - faults a.n) (count (both (agrees a.agreements.now) (reported a.reports.now)) a.n) (omega (arith, c.if-n-faults.true, c.faults.ensures, c.in_both.ensures)))

pub returns-else-n-faults : goal.returns-else-n-faults
unfolding second_quorum
returns-else-n-faults c = let a = c.args in
    rw (c.faults.ensures, c.in_both.ensures, lt-leb (a.n - faults a.n) (count (both (agrees a.agreements.now) (reported a.reports.now)) a.n) (omega (arith, c.if-n-faults.false, c.faults.ensures, c.in_both.ensures))) refl
