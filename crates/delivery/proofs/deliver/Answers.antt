-- `deliver` meets its contract.
use Rattle.std.proofs.Common.{◌≡◌, ◌∙◌, sym, ap, arith, ◌+◌, ◌-◌}
use Rattle.sizes.proofs.Refusals.{passed}
use Rattle.messages.proofs.Laws.{if_refused, if_done}
use Rattle.delivery.specs.Delivery.{inbox}
use Rattle.delivery.specs.Refusals.{receives}
use Rattle.delivery.proofs.deliver.Goals as goal

pub returns-in_err-refusal : goal.returns-in_err-refusal
returns-in_err-refusal c =
    let p = passed _ c.from_residual.result c.from_residual.ensures.1 c.in_err-refusal.ensures in
    (p.0, sym (if_refused _ _ _ p.1))

pub overflow_sub-own : goal.overflow_sub-own
overflow_sub-own c = (receives _ _ _ _ (sym c.in_ok-refusal.ensures)).0

pub deliver_words-requires : goal.deliver_words-requires
deliver_words-requires c =
    let long = (receives _ _ _ _ (sym c.in_ok-refusal.ensures)).1 in
    (c.if-round-eq1.true, omega (arith, rw c.if-round-eq1.true at long))

pub returns-then-round-eq1 : goal.returns-then-round-eq1
returns-then-round-eq1 c =
    let a = c.args in
    let e = c.in_ok-refusal.ensures in
    let own : a.own - 1 + 1 ≡ a.own = omega (arith, (receives _ _ _ _ (sym e)).0) in
    (e, c.deliver_words.ensures ∙ ap (inbox a.sheet.now a.round a.mail.now) own ∙ sym (if_done _ _ _ (sym e)))

pub overflow_sub-own-2 : goal.overflow_sub-own-2
overflow_sub-own-2 c = (receives _ _ _ _ (sym c.in_ok-refusal.ensures)).0

pub deliver_messages-requires : goal.deliver_messages-requires
deliver_messages-requires c = (receives _ _ _ _ (sym c.in_ok-refusal.ensures)).1

pub returns : goal.returns
returns c =
    let a = c.args in
    let e = c.in_ok-refusal.ensures in
    let own : a.own - 1 + 1 ≡ a.own = omega (arith, (receives _ _ _ _ (sym e)).0) in
    (e, c.deliver_messages.ensures ∙ ap (inbox a.sheet.now a.round a.mail.now) own ∙ sym (if_done _ _ _ (sym e)))
