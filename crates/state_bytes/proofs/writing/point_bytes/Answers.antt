-- `writing::point_bytes` meets its contract. A turn writes two bytes.
use Rattle.std.proofs.Common.{◌≡◌, ◌∙◌, ap, rules, arith, get_or, ◌+◌, ◌*◌}
use Rattle.lists.specs.Loops.{filled_none, filled_more, filled_done}
use Rattle.state_bytes.specs.Layout.{half, point_byte}
use Rattle.state_bytes.proofs.Inverse.{half_byte}
use Rattle.state_bytes.proofs.writing.point_bytes.Goals as goal

pub loop-i-init : goal.loop-i-init
loop-i-init c = filled_none _ _ _ (omega arith)

pub loop-i-preserved : goal.loop-i-preserved
unfolding half
loop-i-preserved c =
    let l = c.loop-i in
    let e : 2 * (l.i + 1) ≡ 2 * l.i + 1 + 1 = omega arith in
    let z : 2 * l.i + 0 ≡ 2 * l.i = omega arith in
    let low : get_or c.to_le_bytes.result 0 0 ≡ half (get_or c.args.kept l.i 0) 0 = search rules in
    let high : get_or c.to_le_bytes.result 1 0 ≡ half (get_or c.args.kept l.i 0) 1 = search rules in
    rw e
    (filled_more _ _ _ _ _ _ (filled_more _ _ _ _ _ _ l.invariant (omega arith) (low ∙ half_byte _ _ 0 (omega arith) ∙ ap (point_byte _) z)) (omega arith)
    (high ∙ half_byte _ _ 1 (omega arith)))

pub returns : goal.returns
returns c = filled_done _ _ _ _ _ c.loop-i.invariant (omega arith) (omega arith)
