-- `speaking::speak_all` meets its contract.
use Rattle.std.proofs.Common.{◌*◌}
use Rattle.lists.specs.Loops.{Filled, Rowed}
use Rattle.sheet.specs.Sheet.{columns}
use Rattle.wall_run.specs.Run.{turned, spoken, words_of}
use Rattle.wall_run.proofs.speaking.speak_all.Given as goal

abbrev pub invariant-loop-j : goal.invariant-loop-j
invariant-loop-j l = Filled (turned (spoken l.sheet l.width) l.initial.wall) (columns l.sheet) l.initial.wall l.wall l.j × Rowed (words_of l.sheet l.width l.initial.wall) (columns l.sheet * l.width) (columns l.sheet) l.initial.mail l.mail l.j
