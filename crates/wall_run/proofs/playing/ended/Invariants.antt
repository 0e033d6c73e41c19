-- `playing::ended` meets its contract.
use Rattle.wall_run.specs.Rounds.{Going}
use Rattle.wall_run.proofs.playing.ended.Given as goal

abbrev pub invariant-loop-q : goal.invariant-loop-q
invariant-loop-q l = Going l.protocol l.sheet l.last l.mail l.wall l.offset l.q
