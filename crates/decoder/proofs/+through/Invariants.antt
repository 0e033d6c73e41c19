-- `through` calls itself with one place less: the measure is k.
use Rattle.decoder.proofs.+through.Given as goal

abbrev pub decreases-through : goal.decreases-through
decreases-through l = l.k
