-- `codeword_of` meets its contract.
use Rattle.std.proofs.Common.{ap, mul-le-mul, arith, ◌∙◌, List, ℕ}
use Rattle.lists.specs.Lists.{list_of}
use Rattle.block.specs.Block.{part, word_at}
use Rattle.block.proofs.Values.{part_front}
use Rattle.codeword.specs.Words.{row_none, row_word}
use Rattle.codeword.proofs.codeword_of.Goals as goal

pub returns-then-b-k : goal.returns-then-b-k
returns-then-b-k c = row_none _ _ _ _ c.if-b-k.true

pub overflow_mul-k : goal.overflow_mul-k
overflow_mul-k c = record { fits = omega (arith, mul-le-mul {n₁ = c.args.k} {m₁ = c.args.size} {n₂ = 31} {m₂ = 4} (omega arith) (omega arith)) }

pub coefficients-c-requires : goal.coefficients-c-requires
coefficients-c-requires c = omega (arith, mul-le-mul {n₁ = c.args.k} {m₁ = c.args.size} {n₂ = 31} {m₂ = 4} (omega arith) (omega arith))

pub returns : goal.returns
returns c =
    let a = c.args in
    c.word.ensures
    ∙ ap (λ (cs : List ℕ). list_of (word_at (part cs 0 a.size)) 32) c.coefficients-c.ensures
    ∙ ap (λ (cs : List ℕ). list_of (word_at cs) 32) (part_front a.bytes.now _ 4 a.size c.requires.0)
    ∙ row_word _ _ _ _ c.if-b-k.false
