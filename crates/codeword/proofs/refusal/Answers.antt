-- `refusal` meets its contract.
use Rattle.std.proofs.Common.{sym, arith, ◌∙◌}
use Rattle.sizes.proofs.Refusals.{passed}
use Rattle.codeword.specs.Words.{across_refused, across_few, across_no_room, across_accepted}
use Rattle.codeword.proofs.refusal.Goals.{then-words-b-via-then-words-b, then-words-b-via-else-words-b+then-room-b}
use Rattle.codeword.proofs.refusal.Goals as goal

pub returns-in_err-refusal : goal.returns-in_err-refusal
returns-in_err-refusal c =
    let p = passed _ c.from_residual.result c.from_residual.ensures.1 c.in_err-refusal.ensures in
    p.0 ∙ across_refused _ _ _ _ _ p.1

pub returns-then-words-b : goal.returns-then-words-b
returns-then-words-b c = elim c.then-words-b.branch [
  | then-words-b-via-then-words-b w ↦ across_few _ _ _ _ _ (sym c.in_ok-refusal.ensures) w.if-words-b.true
  | then-words-b-via-else-words-b+then-room-b w ↦ across_no_room _ _ _ _ _ (sym c.in_ok-refusal.ensures) (omega (arith, w.if-words-b.false)) w.if-room-b.true
]

pub returns : goal.returns
returns c = sym (across_accepted _ _ _ _ _ (sym c.in_ok-refusal.ensures) (omega (arith, c.if-words-b.false)) (omega (arith, c.if-room-b.false)))
