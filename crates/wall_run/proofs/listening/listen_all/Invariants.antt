-- `listening::listen_all` meets its contract.
use Rattle.std.proofs.Common.{◌≡◌, length}
use Rattle.lists.specs.Loops.{Filled}
use Rattle.sheet.specs.Sheet.{columns}
use Rattle.wall_run.specs.Run.{turned, heard}
use Rattle.wall_run.proofs.listening.listen_all.Given as goal

abbrev pub invariant-loop-i : goal.invariant-loop-i
invariant-loop-i l = Filled (turned (heard l.sheet l.round l.mail) l.initial.wall) (columns l.sheet) l.initial.wall l.wall l.i × (length l.inbox ≡ 992)
