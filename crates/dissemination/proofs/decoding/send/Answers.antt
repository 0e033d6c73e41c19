-- `decoding::send` meets its contract.
use Rattle.std.proofs.Common.{◌≡◌, ◌∙◌, sym, ap, arith, List, ℕ, length}
use Rattle.sizes.specs.Sizes.{blocks}
use Rattle.sizes.proofs.Laws.{blocks_le, columns_of}
use Rattle.sizes.proofs.Refusals.{passed}
use Rattle.messages.specs.Messages.{to_all_refusal, said}
use Rattle.messages.proofs.Laws.{if_refused, if_done, to_all_same, accepted as messages_accepted, not_refused}
use Rattle.dissemination.specs.Dissemination.{spoken}
use Rattle.dissemination.proofs.Laws.{said_silenced}
use Rattle.dissemination.proofs.decoding.send.Goals as goal

pub returns-in_err-refusal : goal.returns-in_err-refusal
returns-in_err-refusal c =
    let p = passed _ c.from_residual.result c.from_residual.ensures.1 c.in_err-refusal.ensures in
    (p.0, sym (if_refused _ _ _ p.1))

pub overflow_cast-blocks : goal.overflow_cast-blocks
overflow_cast-blocks c = record { fits = omega (arith, c.blocks-2.ensures, blocks_le c.args.n c.args.m) }

pub returns : goal.returns
returns c = let a = c.args in
    let e = c.in_ok-refusal.ensures in
    let h = messages_accepted _ _ _ (length a.out.now) (sym e) in
    let ok : to_all_refusal a.n (blocks a.n a.m) (length a.out.now) ≡ 0 = not_refused _ _ _ _ (columns_of a.n a.m 1 h.0) h.1 in
    let told = rw c.blocks-2.ensures at c.to_all.ensures in
    (told.0 ∙ ok ∙ e, told.1 ∙ if_done _ _ _ ok ∙ to_all_same a.n (blocks a.n a.m) _ (spoken a.speaks a.kept) (λ k. ap (λ (l : List ℕ). said l k) c.silenced_unless-message.ensures ∙ said_silenced a.speaks a.kept k) ∙ sym (if_done _ _ _ (sym e)))
