-- `reports::in_both` meets its contract.
use Rattle.std.proofs.Common.{sym, ap, ap₂, arith, ◌∙◌, Bool, ◌&&◌}
use Rattle.lists.specs.Lists.{bit}
use Rattle.lists.specs.Loops.{counted_none, counted_more, counted_done, bit_most}
use Rattle.dispersal.specs.Laws.{both_place}
use Rattle.dispersal.proofs.reports.in_both.Goals as goal

pub loop-i-init : goal.loop-i-init
loop-i-init c = counted_none _ _

pub overflow_add-sum : goal.overflow_add-sum
overflow_add-sum c = omega (arith, c.loop-i.invariant.most, c.flag-in-loop-i-2.ensures, bit_most (c.flag.result && c.flag-in-loop-i.result))

pub loop-i-preserved : goal.loop-i-preserved
loop-i-preserved c = let a = c.args in
    counted_more _ _ _ _ _ c.loop-i.invariant (omega arith)
    (c.flag-in-loop-i-2.ensures ∙ ap bit (ap₂ {C = Bool} (λ p q. p && q) c.flag.ensures c.flag-in-loop-i.ensures ∙ sym (both_place a.some.now a.others.now c.loop-i.i)))

pub returns : goal.returns
returns c = counted_done _ _ _ _ c.loop-i.invariant (omega arith)
