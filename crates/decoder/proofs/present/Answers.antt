-- `present` meets its contract.
use Rattle.std.proofs.Common.{ap, arith, ◌∙◌, ℕ, ltb, get_or}
use Rattle.lists.specs.Lists.{bit}
use Rattle.lists.specs.Loops.{counted_none, counted_more, counted_done, bit_most}
use Rattle.decoder.specs.Steps.{at_index}
use Rattle.decoder.proofs.present.Goals as goal

pub loop-i-init : goal.loop-i-init
loop-i-init c = counted_none _ _

pub overflow_add-sum : goal.overflow_add-sum
overflow_add-sum c =
    let l = c.loop-i in
    omega (arith, l.invariant.most, c.one_if_point-sum.ensures, bit_most (ltb (get_or c.args.points.now l.i 0) 257))

pub loop-i-preserved : goal.loop-i-preserved
loop-i-preserved c =
    let l = c.loop-i in
    counted_more _ _ _ _ _ l.invariant (omega arith)
    (c.one_if_point-sum.ensures ∙ ap (λ (y : ℕ). bit (ltb y 257)) (at_index c.args.points.now l.i (omega (arith, c.requires.1))))

pub returns : goal.returns
returns c = counted_done _ _ _ _ c.loop-i.invariant (omega arith)
