-- `rows::run` meets its contract.
use Rattle.std.proofs.Common.{sym, ap, arith, ◌∙◌}
use Rattle.sizes.proofs.Refusals.{passed}
use Rattle.messages.proofs.Laws.{if_refused, if_done}
use Rattle.wall_run.specs.Run.{outcomes}
use Rattle.wall_run.specs.Row.{refused_with}
use Rattle.wall_bytes.specs.Calls.{row_bytes, wall_answer, wall_row}
use Rattle.wall_bytes.specs.Laws.{entered_none, entered_same, entered_more, entered_done, ran}
use Rattle.wall_bytes.proofs.rows.run.Goals as goal

pub returns-in_err-all : goal.returns-in_err-all
unfolding wall_answer wall_row
returns-in_err-all c =
    let a = c.args in
    let is = c.in_err-all.ensures ∙ ap (outcomes a.protocol a.sheet.now) c.places-n.ensures in
    let p = passed _ c.from_residual.result c.from_residual.ensures.1 (refused_with _ _ _ _ is) in
    (p.0, sym (if_refused _ _ _ p.1))

pub loop-i-init : goal.loop-i-init
loop-i-init c =
    let a = c.args in
    let r = ran _ _ a.row.now _ (c.in_ok-all.ensures ∙ ap (outcomes a.protocol a.sheet.now) c.places-n.ensures) in
    entered_none _ _ _ (omega (arith, r.few, c.places-n.ensures)) (omega (arith, r.size, c.places-n.ensures))

pub offset_bounds-all-i : goal.offset_bounds-all-i
offset_bounds-all-i c = omega (arith, c.loop-i.invariant.few)

pub bounds-all-i : goal.bounds-all-i
bounds-all-i c = omega (arith, c.loop-i.invariant.few)

pub slice_bounds-put-count : goal.slice_bounds-put-count
slice_bounds-put-count c = omega (arith, c.loop-i.invariant.size, entered_same _ _ _ _ _ c.loop-i.invariant)

pub slice_bounds-put-start : goal.slice_bounds-put-start
slice_bounds-put-start c = omega (arith, c.loop-i.invariant.size, entered_same _ _ _ _ _ c.loop-i.invariant)

pub loop-i-preserved : goal.loop-i-preserved
loop-i-preserved c = entered_more _ _ _ _ _ c.loop-i.invariant _ _ (omega arith) (omega arith) c.put.ensures.1 c.put.ensures.0

pub shape_of-row : goal.shape_of-row
shape_of-row c = entered_same _ _ _ _ _ c.loop-i.invariant

pub returns : goal.returns
unfolding wall_row
returns c =
    let a = c.args in
    let n = c.places-n.ensures in
    let r = ran _ _ a.row.now _ (c.in_ok-all.ensures ∙ ap (outcomes a.protocol a.sheet.now) n) in
    let written = rw n at (entered_done _ _ _ _ _ c.loop-i.invariant (omega arith)) in
    (sym r.done, written ∙ ap row_bytes r.holds ∙ sym (if_done _ _ _ r.done))
