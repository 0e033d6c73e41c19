-- `run` meets its contract.
use Rattle.std.proofs.Common.{◌∙◌, sym, arith}
use Rattle.sizes.proofs.Refusals.{passed}
use Rattle.wall_run.specs.Row.{accepted_run, refused_with, settled_with, row_refused, row_filled}
use Rattle.wall_run.proofs.run.Goals as goal

pub returns-in_err-entries : goal.returns-in_err-entries
returns-in_err-entries c =
    let p = passed _ c.from_residual.result c.from_residual.ensures.1 (refused_with _ _ _ _ c.in_err-entries.ensures) in
    (p.0, row_refused _ _ _ p.1)

pub write-requires : goal.write-requires
write-requires c =
    let a = (accepted_run _ _ _ (settled_with _ _ _ _ _ c.in_ok-entries.ensures).0).0 in
    omega (arith, a.rows_are, a.arrays_there.range.columns_high)

pub returns : goal.returns
returns c =
    let s = settled_with _ _ _ _ _ c.in_ok-entries.ensures in
    (sym s.0, c.write.ensures ∙ row_filled _ _ _ _ s.0 s.1)
