-- `codewords` meets its contract.
use Rattle.std.proofs.Common.{sym, ◌∙◌, length}
use Rattle.sizes.proofs.Refusals.{passed}
use Rattle.messages.proofs.Laws.{refused_before, refused_behind, if_refused, if_done, accepted as messages_accepted}
use Rattle.codeword.proofs.codewords.Goals as goal

pub returns-in_err-refusal : goal.returns-in_err-refusal
returns-in_err-refusal c =
    let p = passed _ c.from_residual.result c.from_residual.ensures.1 c.in_err-refusal.ensures in
    let e = sym (refused_before _ 32 32 (length c.args.all.now) p.1) in
    (p.0 ∙ e, sym (if_refused _ _ _ (λ z. p.1 (e ∙ z))))

pub returns-in_err-refusal-2 : goal.returns-in_err-refusal-2
returns-in_err-refusal-2 c =
    let p = passed _ c.from_residual-in_err-refusal-2.result c.from_residual-in_err-refusal-2.ensures.1 c.in_err-refusal-2.ensures in
    let e = refused_behind _ 32 32 (length c.args.all.now) c.in_ok-refusal.ensures in
    (p.0 ∙ sym e, sym (if_refused _ _ _ (λ z. p.1 (sym e ∙ z))))

pub fill-requires : goal.fill-requires
fill-requires c = (sym c.in_ok-refusal.ensures, (messages_accepted _ _ _ _ (sym c.in_ok-refusal-2.ensures)).1)

pub returns : goal.returns
returns c =
    let z = c.in_ok-refusal-2.ensures ∙ sym (refused_behind _ 32 32 (length c.args.all.now) c.in_ok-refusal.ensures) in
    (z, c.fill.ensures ∙ sym (if_done _ _ _ (sym z)))
