-- `coefficients` meets its contract.
use Rattle.codeword.specs.Words.{four_bytes}
use Rattle.codeword.proofs.coefficients.Goals as goal

pub returns : goal.returns
returns c =
    four_bytes _ _ _ _ _ _ c.byte.ensures c.byte-2.ensures
    c.byte-3.ensures c.byte-4.ensures
