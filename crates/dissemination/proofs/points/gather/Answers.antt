-- `points::gather` meets its contract.
use Rattle.std.proofs.Common.{sym, ap, arith, ◌∙◌, List, ℕ, length, get_or}
use Rattle.std.proofs.Math.ListN.{get_or-replicate}
use Rattle.lists.specs.Loops.{filled_none, filled_more, filled_rest}
use Rattle.lists.specs.Rows.{row_fits}
use Rattle.field.specs.Field.{blank}
use Rattle.dissemination.proofs.Kept.{placed_within, placed_past}
use Rattle.dissemination.proofs.points.gather.Goals as goal

pub loop-i-init : goal.loop-i-init
loop-i-init c = (filled_none _ _ _ (omega (arith, ap length c.requires.3)), omega arith)

pub heard_at-requires : goal.heard_at-requires
heard_at-requires c =
    (omega arith, omega (arith, c.requires.2, row_fits c.args.b c.loop-i.i c.args.n (omega arith)))

pub loop-i-preserved : goal.loop-i-preserved
loop-i-preserved c =
    (filled_more _ _ _ _ _ _ c.loop-i.invariant.0 (omega arith) (c.heard_at.ensures ∙ sym (placed_within _ _ _ (omega arith))), omega arith)

pub returns : goal.returns
returns c =
    let were = c.requires.3 in
    filled_rest _ _ _ _ _ 0 c.loop-i.invariant.0 (omega (arith, ap length were)) (λ j l h.
    ap (λ (l : List ℕ). get_or l j 0) were ∙ get_or-replicate 32 j blank 0 h ∙ sym (placed_past _ _ _ (omega arith)))
