-- `writing::point_bytes` meets its contract. A turn writes two bytes.
use Rattle.std.proofs.Common.{◌*◌}
use Rattle.lists.specs.Loops.{Filled}
use Rattle.state_bytes.specs.Layout.{point_byte}
use Rattle.state_bytes.proofs.writing.point_bytes.Given as goal

abbrev pub invariant-loop-i : goal.invariant-loop-i
invariant-loop-i l = Filled (point_byte l.kept) 64 l.initial.bytes l.bytes (2 * l.i)
