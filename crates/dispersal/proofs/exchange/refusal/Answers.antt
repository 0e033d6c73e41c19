-- `exchange::refusal` meets its contract.
use Rattle.std.proofs.Common.{sym, ap, ◌∙◌, ◌*◌, ℕ, arith}
use Rattle.sizes.proofs.Laws.{blocks_le}
use Rattle.sizes.proofs.Refusals.{passed}
use Rattle.messages.specs.Messages.{refusal}
use Rattle.messages.proofs.Laws.{refused_before, refused_behind}
use Rattle.dispersal.proofs.exchange.refusal.Goals as goal

pub returns-in_err-refusal : goal.returns-in_err-refusal
returns-in_err-refusal c =
    let p = passed _ c.from_residual.result c.from_residual.ensures.1 c.in_err-refusal.ensures in
    p.0 ∙ sym (refused_before _ _ _ _ p.1)

pub overflow_cast-blocks : goal.overflow_cast-blocks
overflow_cast-blocks c = record { fits = omega (arith, c.blocks-2.ensures, blocks_le c.args.n c.args.m) }

pub overflow_mul-blocks : goal.overflow_mul-blocks
overflow_mul-blocks c = record { fits = omega (arith, c.blocks-2.ensures, blocks_le c.args.n c.args.m) }

pub returns : goal.returns
returns c = let a = c.args in
    c.refusal-2.ensures ∙ ap (λ (b : ℕ). refusal 0 a.n (2 * b) a.len) c.blocks-2.ensures ∙ sym (refused_behind _ _ _ _ c.in_ok-refusal.ensures)
