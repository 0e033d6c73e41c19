-- `hits` meets its contract.
use Rattle.std.proofs.Common.{◌∙◌, arith, eqb, get_or}
use Rattle.lists.specs.Loops.{counted_none, counted_more, counted_done, bit_most}
use Rattle.decoder.specs.Steps.{same_hits, same_index}
use Rattle.decoder.proofs.hits.Goals as goal

pub loop-i-init : goal.loop-i-init
loop-i-init c = counted_none _ _

pub overflow_cast-sum : goal.overflow_cast-sum
overflow_cast-sum c =
    let l = c.loop-i in
    let w = c.word-word.result in
    omega (arith, c.flag.ensures, bit_most (eqb (get_or w l.i 0) (get_or c.args.points.now l.i 0)))

pub overflow_add-sum : goal.overflow_add-sum
overflow_add-sum c =
    let l = c.loop-i in
    let w = c.word-word.result in
    omega (arith, l.invariant.most, c.requires.0, c.flag.ensures, bit_most (eqb (get_or w l.i 0) (get_or c.args.points.now l.i 0)))

pub loop-i-preserved : goal.loop-i-preserved
loop-i-preserved c =
    let l = c.loop-i in
    counted_more _ _ _ _ _ l.invariant (omega arith) (c.flag.ensures ∙ same_index _ _ l.i (omega (arith, c.requires.1)))

pub overflow_cast-result : goal.overflow_cast-result
overflow_cast-result c = omega (arith, c.loop-i.invariant.most)

pub returns : goal.returns
returns c =
    counted_done _ _ _ _ c.loop-i.invariant (omega arith) ∙ same_hits c.args.c _ _ _ (omega (arith, c.requires.0)) c.word-word.ensures
