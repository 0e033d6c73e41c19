-- `to_all` meets its contract.
use Rattle.std.proofs.Common.{◌≡◌, ◌∙◌, refl, length, sym, arith, ◌*◌}
use Rattle.lists.specs.Loops.{rowed_none, rowed_more, rowed_room, rowed_done}
use Rattle.sizes.proofs.Refusals.{passed, there}
use Rattle.messages.specs.Messages.{to_all}
use Rattle.messages.proofs.Laws.{refused_before, refused_behind, written_fits, accepted, if_refused, if_done, has_room}
use Rattle.messages.proofs.to_all.Goals as goal

pub returns-in_err-refusal : goal.returns-in_err-refusal
returns-in_err-refusal c = let a = c.args in
    let p = passed _ c.from_residual.result c.from_residual.ensures.1 c.in_err-refusal.ensures in
    let e = sym (refused_before _ a.n a.w (length a.out.now) p.1) in
    (p.0 ∙ e, sym (if_refused _ _ _ (λ z. p.1 (e ∙ z))))

pub returns-in_err-refusal-2 : goal.returns-in_err-refusal-2
returns-in_err-refusal-2 c = let a = c.args in
    let p = passed _ c.from_residual-in_err-refusal-2.result c.from_residual-in_err-refusal-2.ensures.1 c.in_err-refusal-2.ensures in
    let e = refused_behind _ a.n a.w (length a.out.now) c.in_ok-refusal.ensures in
    (p.0 ∙ sym e, sym (if_refused _ _ _ (λ z. p.1 (sym e ∙ z))))

pub returns-then-w-eq1 : goal.returns-then-w-eq1
returns-then-w-eq1 c = let a = c.args in
    let e = c.in_ok-refusal-2.ensures ∙ sym (refused_behind _ a.n a.w (length a.out.now) c.in_ok-refusal.ensures) in
    let one : a.w ≡ 1 = c.if-w-eq1.true in
    let size : length a.out.now ≡ a.n * a.w = (accepted _ _ _ _ (sym e)).1 in
    let all : length a.out.now ≡ a.n = (rw one at size) ∙ omega arith in
    let same : to_all (length a.out.now) 1 a.message.now ≡ to_all a.n a.w a.message.now = rw (all, one) refl in
    (e, c.one_to_each.ensures ∙ same ∙ sym (if_done _ _ _ (sym e)))

pub loop-j-init : goal.loop-j-init
loop-j-init c = rowed_none _ _ _ _ (sym (accepted _ _ _ _ (sym c.in_ok-refusal-2.ensures)).1)

pub unwrap-requires : goal.unwrap-requires
unwrap-requires c = there _ (c.write.ensures.0 ∙ has_room _ _ (rowed_room _ _ _ _ _ _ _ c.loop-j.invariant (omega arith) (omega (arith, c.place-at.ensures))))

pub loop-j-preserved : goal.loop-j-preserved
loop-j-preserved c = rowed_more _ _ _ _ _ _ _ _ c.loop-j.invariant (omega arith) (omega (arith, c.place-at.ensures))
    (c.write.ensures.1 ∙ written_fits _ _ _ (rowed_room _ _ _ _ _ _ _ c.loop-j.invariant (omega arith) (omega (arith, c.place-at.ensures))))

pub returns : goal.returns
unfolding to_all
returns c = let a = c.args in
    let e = c.in_ok-refusal-2.ensures ∙ sym (refused_behind _ a.n a.w (length a.out.now) c.in_ok-refusal.ensures) in
    (e, rowed_done _ _ _ _ _ _ c.loop-j.invariant (omega arith) ∙ sym (if_done _ _ _ (sym e)))
