-- `exchange::send_all` meets its contract.
use Rattle.std.proofs.Common.{refl, replicate, ◌∙◌, arith}
use Rattle.lists.specs.Loops.{rowed_none, rowed_fits, rowed_more, rowed_room, rowed_done}
use Rattle.field.specs.Field.{blank}
use Rattle.sizes.proofs.Laws.{blocks_le, accepted, few_blocks, column_of_lem}
use Rattle.sizes.proofs.Refusals.{there}
use Rattle.codeword.specs.Words.{codewords_accepted, codewords_in, length_written}
use Rattle.dispersal.specs.Laws.{paired_is}
use Rattle.dispersal.proofs.exchange.send_all.Goals as goal

pub overflow_cast-b : goal.overflow_cast-b
overflow_cast-b c = record { fits = omega (arith, c.blocks-b.ensures, blocks_le c.args.n c.args.m) }

pub unwrap-requires : goal.unwrap-requires
unwrap-requires c = there _ (c.codewords.ensures.0 ∙ codewords_accepted _ _ _ (replicate 1024 blank) c.requires.0 refl)

pub loop-j-init : goal.loop-j-init
loop-j-init c = rowed_none _ _ _ _ (rw c.blocks-b.ensures c.requires.1)

pub overflow_mul-b : goal.overflow_mul-b
overflow_mul-b c = record { fits = omega (arith, c.blocks-b.ensures, few_blocks c.args.n c.args.m c.args.own c.requires.0) }

pub overflow_add-j : goal.overflow_add-j
overflow_add-j c = omega (arith, (accepted c.args.n c.args.m c.args.own c.requires.0).range.columns_high)

pub offset_bounds-out-at : goal.offset_bounds-out-at
offset_bounds-out-at c = omega (arith, c.place-at.ensures, rowed_fits _ _ _ _ _ _ c.loop-j.invariant (omega arith), c.well_formed)

pub slice_bounds-send_one-count : goal.slice_bounds-send_one-count
slice_bounds-send_one-count c = omega (arith, c.place-at.ensures, rowed_fits _ _ _ _ _ _ c.loop-j.invariant (omega arith))

pub slice_bounds-send_one-start : goal.slice_bounds-send_one-start
slice_bounds-send_one-start c = omega (arith, c.place-at.ensures, rowed_fits _ _ _ _ _ _ c.loop-j.invariant (omega arith))

pub send_one-requires : goal.send_one-requires
send_one-requires c =
    let a = accepted c.args.n c.args.m c.args.own c.requires.0 in
    let few = few_blocks c.args.n c.args.m c.args.own c.requires.0 in (
      column_of_lem c.args.n c.args.m c.args.own c.args.own c.requires.0 a.number_low a.number_high,
      column_of_lem c.args.n c.args.m c.args.own _ c.requires.0 (omega arith) (omega arith),
      omega (arith, few, c.blocks-b.ensures, length_written _ _ _ _ (replicate 1024 blank) _ c.requires.0 refl c.codewords.ensures.1),
      rowed_room _ _ _ _ _ _ _ c.loop-j.invariant (omega arith) (omega (arith, c.place-at.ensures)),
    )

pub loop-j-preserved : goal.loop-j-preserved
loop-j-preserved c = rowed_more _ _ _ _ _ _ _ _ c.loop-j.invariant (omega arith) (omega (arith, c.place-at.ensures)) c.send_one.ensures

pub shape_of-out : goal.shape_of-out
shape_of-out c = c.loop-j.invariant.same

pub returns : goal.returns
returns c = rowed_done _ _ _ _ _ _ c.loop-j.invariant (omega arith) ∙ paired_is _ _ _ _ _ _ c.requires.0 c.blocks-b.ensures (c.codewords.ensures.1 ∙ codewords_in _ _ _ _ (replicate 1024 blank) c.requires.0 refl)
