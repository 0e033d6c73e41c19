-- `fill` meets its contract: each branch hands on the size of a block as a literal.
use Rattle.std.proofs.Common.{◌∙◌, arith}
use Rattle.sizes.proofs.Laws.{accepted, sized}
use Rattle.codeword.specs.Words.{rows_are}
use Rattle.codeword.proofs.fill.Goals as goal

pub returns-in-0 : goal.returns-in-0
returns-in-0 c = c.rows.ensures ∙ rows_are _ _ _ _ _ c.blocks-b.ensures (omega (arith, c.degree.ensures, c.in-0.is))

pub returns-in-1 : goal.returns-in-1
returns-in-1 c = c.rows-in-1.ensures ∙ rows_are _ _ _ _ _ c.blocks-b.ensures (omega (arith, c.degree.ensures, c.in-1.is))

pub returns-in-2 : goal.returns-in-2
returns-in-2 c = c.rows-in-2.ensures ∙ rows_are _ _ _ _ _ c.blocks-b.ensures (omega (arith, c.degree.ensures, c.in-2.is))

pub returns-in_default : goal.returns-in_default
returns-in_default c =
    let high = (sized c.args.n c.args.m (accepted c.args.n c.args.m 1 c.requires.0).range).degree_high in
    c.rows-in_default.ensures ∙ rows_are _ _ _ _ _ c.blocks-b.ensures (omega (arith, c.degree.ensures, high))
