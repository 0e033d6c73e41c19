-- `points::times` meets its contract.
use Rattle.std.proofs.Common.{sym, ap, arith, ◌∙◌, ℕ, eqb, get_or}
use Rattle.lists.specs.Lists.{bit}
use Rattle.lists.specs.Entries.{get_d_within}
use Rattle.lists.specs.Loops.{counted_none, counted_more, counted_done, bit_most}
use Rattle.field.specs.Field.{blank}
use Rattle.messages.specs.Messages.{said, times}
use Rattle.messages.proofs.Laws.{from_place}
use Rattle.dissemination.proofs.points.times.Goals as goal

pub loop-i-init : goal.loop-i-init
loop-i-init c = counted_none _ _

pub overflow_cast-sum : goal.overflow_cast-sum
overflow_cast-sum c =
    let a = c.args in
    omega (arith, c.flag.ensures, bit_most (eqb (get_or a.values c.loop-i.i 0) a.v))

pub overflow_add-sum : goal.overflow_add-sum
overflow_add-sum c =
    let a = c.args in
    omega (arith, c.loop-i.invariant.most, c.flag.ensures, bit_most (eqb (get_or a.values c.loop-i.i 0) a.v))

pub loop-i-preserved : goal.loop-i-preserved
unfolding said
loop-i-preserved c =
    let a = c.args in
    let i = c.loop-i.i in
    counted_more _ _ _ _ _ c.loop-i.invariant (omega arith)
    (c.flag.ensures ∙ ap (λ (x : ℕ). bit (eqb x a.v)) (get_d_within a.values i 0 blank (omega (arith, c.well_formed.0.1.0.1)) ∙ sym (from_place a.values i)))

pub overflow_cast-result : goal.overflow_cast-result
overflow_cast-result c = omega (arith, c.loop-i.invariant.most)

pub returns : goal.returns
unfolding times
returns c = counted_done _ _ _ _ c.loop-i.invariant (omega arith)
