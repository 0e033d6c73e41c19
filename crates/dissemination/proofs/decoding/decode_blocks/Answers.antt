-- `decoding::decode_blocks` meets its contract.
use Rattle.std.proofs.Common.{◌∙◌, sym, ap, not, mul-le-mul, arith, ◌+◌}
use Rattle.sizes.proofs.Laws.{blocks_le, degree_le, few_blocks, columns_of}
use Rattle.decoder.specs.Decoder.{polynomial_of}
use Rattle.dissemination.specs.Decoding.{answer_in}
use Rattle.dissemination.proofs.Decoded.{block_missing, block_bytes, done_none, done_more, decodes_none, decodes_all}
use Rattle.dissemination.proofs.decoding.decode_blocks.Goals as goal

pub overflow_cast-b : goal.overflow_cast-b
overflow_cast-b c = record { fits = omega (arith, c.blocks-b.ensures, blocks_le c.args.n c.args.m) }

pub overflow_cast-size : goal.overflow_cast-size
overflow_cast-size c = record { fits = omega (arith, c.degree.ensures, degree_le c.args.n) }

pub overflow_add-size : goal.overflow_add-size
overflow_add-size c = omega (arith, c.degree.ensures, degree_le c.args.n)

pub loop-k-init : goal.loop-k-init
loop-k-init c = done_none _ _ _ _ (omega (arith, few_blocks c.args.n c.args.m c.args.own c.requires))

pub block-requires : goal.block-requires
block-requires c = columns_of _ _ _ c.requires

pub returns-in_default : goal.returns-in_default
unfolding answer_in polynomial_of
returns-in_default c = let a = c.args in
    decodes_none a.n a.m _ c.loop-k.k (omega (arith, c.blocks-b.ensures))
    (block_missing a.n a.m _ c.loop-k.k (ap (polynomial_of a.n) (sym (rw c.blocks-b.ensures at c.in_default.ensures))))

pub overflow_mul-k : goal.overflow_mul-k
overflow_mul-k c = record { fits = omega (arith, mul-le-mul {n₁ = c.loop-k.k} {m₁ = c.degree.result + 1} {n₂ = 255} {m₂ = 255} (omega (arith, c.blocks-b.ensures, blocks_le c.args.n c.args.m)) (omega (arith, c.degree.ensures, degree_le c.args.n))) }

pub returns-then-not-are_bytes : goal.returns-then-not-are_bytes
unfolding answer_in
returns-then-not-are_bytes c = let a = c.args in
    decodes_none a.n a.m _ c.loop-k.k (omega (arith, c.blocks-b.ensures))
    (block_bytes a.n a.m _ c.loop-k.k _ (sym (rw c.blocks-b.ensures at c.in-Some.ensures))
    ∙ sym (rw c.degree.ensures at c.are_bytes.ensures) ∙ c.if-not-are_bytes.true)

pub overflow_cast-at : goal.overflow_cast-at
overflow_cast-at c = omega (arith, c.blocks-b.ensures, few_blocks c.args.n c.args.m c.args.own c.requires)

pub overflow_mul-at : goal.overflow_mul-at
overflow_mul-at c = omega (arith, c.blocks-b.ensures, few_blocks c.args.n c.args.m c.args.own c.requires)

pub offset_bounds-coefficients-at : goal.offset_bounds-coefficients-at
offset_bounds-coefficients-at c = omega (arith, c.blocks-b.ensures, few_blocks c.args.n c.args.m c.args.own c.requires)

pub bounds-coefficients-at : goal.bounds-coefficients-at
bounds-coefficients-at c = omega (arith, c.blocks-b.ensures, few_blocks c.args.n c.args.m c.args.own c.requires)

pub overflow_add-coefficients : goal.overflow_add-coefficients
overflow_add-coefficients c = omega (arith, c.blocks-b.ensures, few_blocks c.args.n c.args.m c.args.own c.requires)

pub offset_bounds-coefficients-at-in-loop-k : goal.offset_bounds-coefficients-at-in-loop-k
offset_bounds-coefficients-at-in-loop-k c = omega (arith, c.blocks-b.ensures, few_blocks c.args.n c.args.m c.args.own c.requires)

pub bounds-coefficients-at-in-loop-k : goal.bounds-coefficients-at-in-loop-k
bounds-coefficients-at-in-loop-k c = omega (arith, c.blocks-b.ensures, few_blocks c.args.n c.args.m c.args.own c.requires)

pub overflow_add-coefficients-in-loop-k : goal.overflow_add-coefficients-in-loop-k
overflow_add-coefficients-in-loop-k c = omega (arith, c.blocks-b.ensures, few_blocks c.args.n c.args.m c.args.own c.requires)

pub offset_bounds-coefficients-at-in-loop-k-2 : goal.offset_bounds-coefficients-at-in-loop-k-2
offset_bounds-coefficients-at-in-loop-k-2 c = omega (arith, c.blocks-b.ensures, few_blocks c.args.n c.args.m c.args.own c.requires)

pub bounds-coefficients-at-in-loop-k-2 : goal.bounds-coefficients-at-in-loop-k-2
bounds-coefficients-at-in-loop-k-2 c = omega (arith, c.blocks-b.ensures, few_blocks c.args.n c.args.m c.args.own c.requires)

pub overflow_add-coefficients-in-loop-k-2 : goal.overflow_add-coefficients-in-loop-k-2
overflow_add-coefficients-in-loop-k-2 c = omega (arith, c.blocks-b.ensures, few_blocks c.args.n c.args.m c.args.own c.requires)

pub offset_bounds-coefficients-at-in-loop-k-3 : goal.offset_bounds-coefficients-at-in-loop-k-3
offset_bounds-coefficients-at-in-loop-k-3 c = omega (arith, c.blocks-b.ensures, few_blocks c.args.n c.args.m c.args.own c.requires)

pub bounds-coefficients-at-in-loop-k-3 : goal.bounds-coefficients-at-in-loop-k-3
bounds-coefficients-at-in-loop-k-3 c = omega (arith, c.blocks-b.ensures, few_blocks c.args.n c.args.m c.args.own c.requires)

pub loop-k-preserved : goal.loop-k-preserved
unfolding answer_in
loop-k-preserved c = let a = c.args in
    let e = sym (rw c.blocks-b.ensures at c.in-Some.ensures) in
    done_more a.n a.m _ _ _ c.loop-k.k _ _ c.loop-k.invariant (omega (arith, c.blocks-b.ensures)) e
    ((rw c.degree.ensures at c.are_bytes.ensures) ∙ sym (block_bytes a.n a.m _ c.loop-k.k _ e)) (ap not c.if-not-are_bytes.false)

pub returns : goal.returns
returns c = decodes_all _ _ _ _ _ _ c.loop-k.invariant (omega (arith, c.blocks-b.ensures))
