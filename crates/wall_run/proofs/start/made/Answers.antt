-- `start::made` meets its contract.
use Rattle.std.specs.Result.{result_unwrap_or}
use Rattle.wall_run.specs.Answered.{left}
use Rattle.std.proofs.Common.{◌∙◌, arith, mul-le-mul, ap, ℕ, ◌+◌, ◌*◌, ◌≤◌, ◌-◌, length, take, drop}
use Rattle.sheet.specs.Sheet.{record_of, columns, bytes, record_place}
use Rattle.sheet.specs.Laws.{record_place_lem, record_fits}
use Rattle.wall_run.specs.Run.{made}
use Rattle.agreement.specs.Calls.{fresh}
use Rattle.wall_run.proofs.start.made.Goals as goal

pub overflow_add-end : goal.overflow_add-end
overflow_add-end c = omega (arith, c.record_place-at.ensures, mul-le-mul {n₁ = c.args.i} {m₁ = c.bytes-m.result} {n₂ = 255} {m₂ = 255} (omega arith) (omega arith), record_place_lem c.columns-n.result c.bytes-m.result c.args.i)

pub slice_bounds-fresh-end : goal.slice_bounds-fresh-end
slice_bounds-fresh-end c =
    let a = c.args in
    let fits : 2 + c.columns-n.result + a.i * c.bytes-m.result + c.bytes-m.result ≤ length a.sheet.now = rw (c.columns-n.ensures, c.bytes-m.ensures) (record_fits a.sheet.now c.requires.0 a.i c.requires.1) in
    omega (arith, c.record_place-at.ensures, record_place_lem c.columns-n.result c.bytes-m.result a.i)

pub returns : goal.returns
unfolding made record_of
returns c =
    let a = c.args in
    let n = columns a.sheet.now in
    let m = bytes a.sheet.now in
    let at = record_place n m (a.i + 1) in
    c.unwrap_or.ensures ∙ ap (result_unwrap_or c.fresh.result) c.no_column.ensures ∙ left _ _ _ c.fresh.ensures
    ∙ rw (c.record_place-at.ensures, c.bytes-m.ensures, c.columns-n.ensures) (ap (λ (k : ℕ). (fresh a.protocol n m (a.i + 1) (take k (drop at a.sheet.now))).column) {x = at + m - at} {y = m} (omega arith))
