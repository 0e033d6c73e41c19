-- `values` meets its contract.
use Rattle.std.proofs.Common.{sym}
use Rattle.sizes.proofs.Laws.{first_column}
use Rattle.sizes.proofs.Refusals.{passed_on}
use Rattle.messages.specs.Messages.{laid}
use Rattle.codeword.specs.Codeword.{values}
use Rattle.codeword.proofs.values.Goals as goal

pub returns-in_err-refusal : goal.returns-in_err-refusal
returns-in_err-refusal c =
    let a = c.args in
    passed_on _ (laid 32 (values a.n a.m a.bytes a.number)) c.from_residual.result c.from_residual.ensures.1 c.in_err-refusal.ensures

pub values_of-requires : goal.values_of-requires
values_of-requires c = first_column _ _ _ (sym c.in_ok-refusal.ensures)

pub returns : goal.returns
returns c = (c.in_ok-refusal.ensures, c.values_of.ensures)
