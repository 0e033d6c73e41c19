-- `deliver_messages` meets its contract.
use Rattle.std.proofs.Common.{◌∙◌, ap, arith, ℕ, ◌+◌, ◌*◌}
use Rattle.lists.specs.Lists.{rows_of}
use Rattle.lists.specs.Loops.{rowed_none, rowed_more, rowed_room, rowed_done}
use Rattle.delivery.specs.Delivery.{sent, inbox}
use Rattle.delivery.specs.Places.{placed_next, sound_mark}
use Rattle.delivery.proofs.deliver_messages.Goals as goal

pub loop-j-init : goal.loop-j-init
loop-j-init c = (rowed_none _ _ _ _ (ap (λ (k : ℕ). k * c.args.round.width) c.columns-n.ensures ∙ c.requires), c.first_place-place.ensures)

pub copy-requires : goal.copy-requires
copy-requires c =
    let l = c.loop-j in
    let n = c.columns-n.ensures in
    (record { all = n; honest = sound_mark _ _ _ (omega (arith, n)) c.mark-mark.ensures; here = l.invariant.1 }, rowed_room _ _ _ _ _ _ _ l.invariant.0 (omega arith) (omega (arith, c.place-at.ensures)))

pub loop-j-preserved : goal.loop-j-preserved
loop-j-preserved c =
    let l = c.loop-j in
    (rowed_more _ _ _ _ _ _ _ _ l.invariant.0 (omega arith) (omega (arith, c.place-at.ensures)) c.copy.ensures, placed_next _ _ _ _ _ _ _ _ _ l.invariant.1 c.columns-n.ensures c.mark-mark.ensures (omega (arith, c.place-step.ensures)) c.next_place-place.ensures (omega arith))

pub returns : goal.returns
unfolding inbox
returns c =
    let a = c.args in
    rowed_done _ _ _ _ _ _ c.loop-j.invariant.0 (omega arith) ∙ ap (λ (n : ℕ). rows_of (sent a.sheet.now a.round a.mail.now (a.to + 1)) a.round.width n) c.columns-n.ensures
