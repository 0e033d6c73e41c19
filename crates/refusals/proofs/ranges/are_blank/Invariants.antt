-- `ranges::are_blank` meets its contract.
use Rattle.std.proofs.Common.{eqb}
use Rattle.lists.specs.Loops.{Tested}
use Rattle.field.specs.Field.{blank}
use Rattle.messages.specs.Messages.{said}
use Rattle.refusals.proofs.ranges.are_blank.Given as goal

abbrev pub invariant-loop-k : goal.invariant-loop-k
invariant-loop-k l = Tested (λ k. eqb (said l.kept k) blank) 32 l.blank l.k
