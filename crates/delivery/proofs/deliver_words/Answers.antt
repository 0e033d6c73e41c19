-- `deliver_words` meets its contract.
use Rattle.std.proofs.Common.{◌∙◌, sym, ap, ap₂, add-one, arith, ℕ, ◌+◌}
use Rattle.lists.specs.Lists.{rows_of}
use Rattle.lists.specs.Loops.{filled_none, filled_more, filled_done}
use Rattle.lists.specs.Rows.{rows_of_one}
use Rattle.delivery.specs.Delivery.{sent, inbox}
use Rattle.delivery.specs.Places.{placed_next, sound_mark}
use Rattle.delivery.proofs.deliver_words.Goals as goal

pub loop-j-init : goal.loop-j-init
loop-j-init c = (filled_none _ _ _ (omega (arith, c.columns-n.ensures, c.requires.1)), c.first_place-place.ensures)

pub value-requires : goal.value-requires
value-requires c =
    let n = c.columns-n.ensures in
    record { all = n; honest = sound_mark _ _ _ (omega (arith, n)) c.mark-mark.ensures; here = c.loop-j.invariant.1 }

pub loop-j-preserved : goal.loop-j-preserved
loop-j-preserved c =
    let l = c.loop-j in
    let said = c.value.ensures ∙ ap (λ (i : ℕ). sent c.args.sheet.now c.args.round c.args.mail.now (c.args.to + 1) i 0) (add-one l.j) in
    (filled_more _ _ _ _ _ _ l.invariant.0 (omega arith) said, placed_next _ _ _ _ _ _ _ _ _ l.invariant.1 c.columns-n.ensures c.mark-mark.ensures (omega (arith, c.place-step.ensures)) c.next_place-place.ensures (omega arith))

pub returns : goal.returns
unfolding inbox
returns c =
    let n = c.columns-n in
    let f = sent c.args.sheet.now c.args.round c.args.mail.now (c.args.to + 1) in
    filled_done _ _ _ _ _ c.loop-j.invariant.0 (omega arith) (omega (arith, n.ensures, c.requires.1)) ∙ sym (rows_of_one f n.result) ∙ ap₂ (rows_of f) (sym c.requires.0) n.ensures
