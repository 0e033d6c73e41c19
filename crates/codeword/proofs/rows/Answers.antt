-- `rows` meets its contract.
use Rattle.std.proofs.Common.{◌∙◌, arith}
use Rattle.lists.specs.Loops.{rowed_none, rowed_fits, rowed_more, rowed_room, rowed_done}
use Rattle.sizes.proofs.Refusals.{there}
use Rattle.messages.proofs.Laws.{has_room}
use Rattle.codeword.specs.Words.{row_written}
use Rattle.codeword.proofs.rows.Goals as goal

pub loop-k-init : goal.loop-k-init
loop-k-init c = rowed_none _ _ _ _ (omega (arith, c.requires.1))

pub codeword_of-word-requires : goal.codeword_of-word-requires
codeword_of-word-requires c = (c.requires.0, omega arith)

pub offset_bounds-all-at : goal.offset_bounds-all-at
offset_bounds-all-at c = omega (arith, rowed_fits _ _ _ _ _ _ c.loop-k.invariant (omega arith))

pub slice_bounds-write-count : goal.slice_bounds-write-count
slice_bounds-write-count c = omega (arith, rowed_fits _ _ _ _ _ _ c.loop-k.invariant (omega arith))

pub slice_bounds-write-start : goal.slice_bounds-write-start
slice_bounds-write-start c = omega (arith, rowed_fits _ _ _ _ _ _ c.loop-k.invariant (omega arith))

pub unwrap-requires : goal.unwrap-requires
unwrap-requires c = there _ (c.write.ensures.0 ∙ has_room _ _ (rowed_room _ _ _ _ _ _ _ c.loop-k.invariant (omega arith) (omega arith)))

pub loop-k-preserved : goal.loop-k-preserved
loop-k-preserved c =
    let i = c.loop-k.invariant in
    rowed_more _ _ _ _ _ _ _ _ i (omega arith) (omega arith)
    (c.write.ensures.1 ∙ row_written _ _ _ (rowed_room _ _ _ _ _ _ _ i (omega arith) (omega arith)) c.codeword_of-word.ensures)

pub shape_of-all : goal.shape_of-all
shape_of-all c = c.loop-k.invariant.same

pub returns : goal.returns
returns c = rowed_done _ _ _ _ _ _ c.loop-k.invariant (omega arith)
