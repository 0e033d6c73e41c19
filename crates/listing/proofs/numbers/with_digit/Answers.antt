-- `numbers::with_digit` meets its contract.
use Rattle.std.proofs.Common.{sym, ap, arith, ◌∙◌}
use Rattle.listing.specs.Number.{number_in}
use Rattle.listing.proofs.Digits.{not_digit, no_byte, longer}
use Rattle.listing.proofs.numbers.with_digit.Goals as goal

pub returns-then-not-is_ascii_digit : goal.returns-then-not-is_ascii_digit
returns-then-not-is_ascii_digit c = sym (not_digit _ _ c.if-not-is_ascii_digit.ensures.cases)

pub returns-in_err-checked_mul : goal.returns-in_err-checked_mul
returns-in_err-checked_mul c = ap number_in c.from_residual.ensures ∙ sym (no_byte c.args.v c.args.letter (omega (arith, c.in_err-checked_mul.ensures)))

pub returns : goal.returns
returns c = longer c.args.v c.args.letter _ _ c.if-not-is_ascii_digit.ensures.cases c.in_ok-checked_mul.ensures.1 c.checked_add.ensures
