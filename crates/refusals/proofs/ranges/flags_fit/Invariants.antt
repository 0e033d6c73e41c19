-- `ranges::flags_fit` meets its contract.
use Rattle.std.proofs.Common.{◌&&◌, ◌≤◌}
use Rattle.lists.specs.Loops.{Tested}
use Rattle.agreement.specs.Column.{flag_fits}
use Rattle.refusals.proofs.ranges.flags_fit.Given as goal

abbrev pub invariant-loop-i : goal.invariant-loop-i
invariant-loop-i l = Tested (λ i. flag_fits l.n l.agreements i && flag_fits l.n l.reports i) 31 l.fit l.i × (l.n ≤ l.i)
