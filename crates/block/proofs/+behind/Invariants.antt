-- `behind` calls itself with one coefficient less: the measure is the count.
use Rattle.block.proofs.+behind.Given as goal

abbrev pub decreases-behind : goal.decreases-behind
decreases-behind l = l.count
