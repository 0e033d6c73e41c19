-- `times_past` meets its contract.
use Rattle.std.proofs.Common.{sym, ap, arith, ◌∙◌, ℕ, eqb}
use Rattle.lists.specs.Lists.{bit}
use Rattle.lists.specs.Loops.{counted_none, counted_more, counted_done}
use Rattle.messages.specs.Messages.{times}
use Rattle.messages.proofs.Laws.{from_place}
use Rattle.messages.proofs.times_past.Goals as goal

pub loop-i-init : goal.loop-i-init
loop-i-init c = counted_none _ _

pub loop-i-preserved : goal.loop-i-preserved
loop-i-preserved c = let a = c.args in
    counted_more _ _ _ _ _ c.loop-i.invariant (omega arith)
    (ap (λ (x : ℕ). bit (eqb x a.v)) (c.value.ensures ∙ sym (from_place a.values.now c.loop-i.i)))

pub returns : goal.returns
unfolding times
returns c = counted_done _ _ _ _ c.loop-i.invariant (omega arith)
