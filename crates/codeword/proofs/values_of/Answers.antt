-- `values_of` meets its contract.
use Rattle.std.proofs.Common.{ap, arith, ◌∙◌, ℕ, ◌+◌}
use Rattle.lists.specs.Loops.{filled_none, filled_more, filled_done}
use Rattle.sizes.proofs.Laws.{degree_le, accepted, sized}
use Rattle.messages.specs.Messages.{laid}
use Rattle.codeword.specs.Words.{value_in_lem}
use Rattle.codeword.proofs.values_of.Goals as goal

pub overflow_cast-size : goal.overflow_cast-size
overflow_cast-size c = omega (arith, c.degree.ensures, degree_le c.args.n)

pub overflow_add-size : goal.overflow_add-size
overflow_add-size c = omega (arith, c.degree.ensures, degree_le c.args.n)

pub loop-k-init : goal.loop-k-init
loop-k-init c = filled_none _ _ _ (omega arith)

pub value-requires : goal.value-requires
value-requires c =
    (omega arith, omega (arith, c.degree.ensures, (sized c.args.n c.args.m (accepted c.args.n c.args.m 1 c.requires).range).degree_high), omega arith)

pub loop-k-preserved : goal.loop-k-preserved
loop-k-preserved c = filled_more _ _ _ _ _ _ c.loop-k.invariant (omega arith) (c.value.ensures ∙ value_in_lem _ _ _ _ _ _ _ c.blocks-b.ensures (ap (λ (d : ℕ). d + 1) c.degree.ensures))

pub returns : goal.returns
unfolding laid
returns c = filled_done _ _ _ _ _ c.loop-k.invariant (omega arith) (omega arith)
