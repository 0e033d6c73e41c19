-- `points::kept_point` meets its contract.
use Rattle.std.proofs.Common.{refl, ◌∙◌, arith, get_or}
use Rattle.sizes.proofs.Laws.{faults_le}
use Rattle.messages.specs.Messages.{from}
use Rattle.dissemination.proofs.Kept.{weight_le, better_is, placed_at, weight_placed, best_none, best_more, best_done, settled}
use Rattle.dissemination.proofs.points.kept_point.Goals as goal

pub gather-requires : goal.gather-requires
gather-requires c = let p = c.requires in (p.0, p.1, p.2, refl)

pub loop-i-init : goal.loop-i-init
loop-i-init c = best_none _ _

pub overflow_add-c : goal.overflow_add-c
overflow_add-c c =
    let a = c.args in
    let values = c.gather.new.values in
    record { fits = omega (arith, c.weight-c.ensures, weight_le 32 (from values) c.loop-i.best (get_or values c.loop-i.i 0), c.faults-t.ensures, faults_le a.n) }

pub returns-then-n-c : goal.returns-then-n-c
returns-then-n-c c =
    settled _ _ _ _ _ (omega arith) (c.weight-c.ensures ∙ weight_placed _ _ _ c.gather.ensures (omega arith) _ _)
    (omega (arith, c.if-n-c.true, c.faults-t.ensures))

pub loop-i-preserved : goal.loop-i-preserved
loop-i-preserved c =
    let all = c.gather.ensures in
    best_more _ _ _ _ _ c.loop-i.invariant (omega arith)
    (c.heavier-best.ensures
    ∙ better_is _ _ _ _ _ _ _ c.faults-t.ensures (c.weight-c.ensures ∙ weight_placed _ _ _ all (omega arith) _ _) (placed_at _ _ _ all (omega arith) _ 0 (omega arith)))

pub returns : goal.returns
returns c = best_done _ _ _ _ c.loop-i.invariant (omega arith)
