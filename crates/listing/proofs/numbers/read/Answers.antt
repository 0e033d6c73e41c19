-- `numbers::read` meets its contract.
use Rattle.std.proofs.Common.{refl, sym, ◌+◌, ◌-◌, length, ap, arith, ◌∙◌}
use Rattle.listing.specs.Number.{read_to, number_in}
use Rattle.listing.proofs.Digits.{read_more, none_stays}
use Rattle.listing.proofs.numbers.read.Goals as goal

pub loop-letter-init : goal.loop-letter-init
unfolding read_to
loop-letter-init c = refl

pub returns-in_err-v : goal.returns-in_err-v
returns-in_err-v c = let text = c.args.text.now in
    let k = c.loop-letter.letter-index in
    ap number_in c.from_residual.ensures ∙ sym (none_stays text (k + 1) (length text - (k + 1)) (length text) (omega arith) (read_more text k _ _ c.loop-letter.invariant c.in_err-v.ensures))

pub loop-letter-preserved : goal.loop-letter-preserved
loop-letter-preserved c = sym (read_more c.args.text.now c.loop-letter.letter-index _ _ c.loop-letter.invariant c.in_ok-v.ensures)

pub returns : goal.returns
returns c = c.loop-letter.invariant ∙ ap (read_to c.args.text.now) (omega arith)
