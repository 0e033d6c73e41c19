-- `outcomes_of` meets its contract.
use Rattle.std.proofs.Common.{Ok, List, sym, ap, ◌∙◌}
use Rattle.sizes.proofs.Refusals.{some, handed_on}
use Rattle.sheet.specs.Sheet.{columns}
use Rattle.agreement.specs.declared.Entry.{Entry}
use Rattle.wall_run.specs.Run.{in_places, settled, refused, outcomes_in}
use Rattle.wall_run.specs.Row.{accepted_run, run_refused, run_settled}
use Rattle.wall_run.proofs.outcomes_of.Goals as goal

pub returns-in_err-refusal : goal.returns-in_err-refusal
returns-in_err-refusal c = let a = c.args in
    let e = c.in_err-refusal.ensures in
    ap (outcomes_in (columns a.sheet.now)) (handed_on _ _ c.from_residual.ensures.1) ∙ ap refused e ∙ sym (run_refused a.protocol a.sheet.now a.rows (λ z. some _ (e ∙ z)))

pub ended-wall-requires : goal.ended-wall-requires
ended-wall-requires c = (accepted_run c.args.protocol c.args.sheet.now c.args.rows (sym c.in_ok-refusal.ensures)).0.arrays_there

pub all-requires : goal.all-requires
all-requires c = (accepted_run c.args.protocol c.args.sheet.now c.args.rows (sym c.in_ok-refusal.ensures)).0.arrays_there.range.columns_high

pub returns : goal.returns
unfolding settled
returns c = let a = c.args in
    ap (λ (es : List Entry). outcomes_in (columns a.sheet.now) (Ok es)) (c.all.ensures ∙ ap (in_places a.sheet.now) c.ended-wall.ensures) ∙ sym (run_settled a.protocol a.sheet.now a.rows (sym c.in_ok-refusal.ensures))
