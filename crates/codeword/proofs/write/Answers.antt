-- `write` meets its contract.
use Rattle.std.proofs.Common.{sym, arith, ◌∙◌}
use Rattle.sizes.proofs.Laws.{accepted}
use Rattle.sizes.proofs.Refusals.{passed}
use Rattle.messages.proofs.Laws.{if_refused}
use Rattle.codeword.specs.Codeword.{written_across}
use Rattle.codeword.specs.Words.{across_fits, across_written}
use Rattle.codeword.proofs.write.Goals as goal

pub returns-in_err-refusal : goal.returns-in_err-refusal
unfolding written_across
returns-in_err-refusal c =
    let p = passed _ c.from_residual.result c.from_residual.ensures.1 c.in_err-refusal.ensures in
    (p.0, sym (if_refused _ _ _ p.1))

pub overflow_sub-number : goal.overflow_sub-number
overflow_sub-number c = let h = across_fits _ _ _ _ _ (sym c.in_ok-refusal.ensures) in (accepted _ _ _ h.0).number_low

pub write_across-requires : goal.write_across-requires
write_across-requires c =
    let h = across_fits _ _ _ _ _ (sym c.in_ok-refusal.ensures) in
    let a = accepted _ _ _ h.0 in
    (omega (arith, a.number_high, a.range.columns_high), h.1, h.2)

pub returns : goal.returns
returns c =
    let h = across_fits _ _ _ _ _ (sym c.in_ok-refusal.ensures) in
    (c.in_ok-refusal.ensures, c.write_across.ensures ∙ sym (across_written _ _ _ _ _ h.0 h.2 h.1))
