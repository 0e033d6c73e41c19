-- `reading::are_flags` meets its contract.
use Rattle.lists.specs.Loops.{Tested}
use Rattle.state_bytes.specs.Layout.{is_flag, flags}
use Rattle.state_bytes.proofs.reading.are_flags.Given as goal

abbrev pub invariant-loop-i : goal.invariant-loop-i
invariant-loop-i l = Tested (is_flag l.state) flags l.all l.i
