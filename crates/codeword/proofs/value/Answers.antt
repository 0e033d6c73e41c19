-- `value` meets its contract.
use Rattle.std.proofs.Common.{ap, mul-le-mul, arith, lt-ltb, le-ltb, ◌∙◌, List, ℕ}
use Rattle.field.specs.declared.Field.{Field}
use Rattle.block.specs.Block.{part, value as value_of}
use Rattle.block.proofs.Values.{part_front}
use Rattle.codeword.specs.Words.{value_in}
use Rattle.codeword.proofs.value.Goals as goal

pub returns : goal.returns
unfolding value_in
returns c = simp (le-ltb c.args.k c.args.b (omega (arith, c.if-k-b.false)))

pub overflow_mul-k : goal.overflow_mul-k
overflow_mul-k c = record { fits = omega (arith, mul-le-mul {n₁ = c.args.k} {m₁ = c.args.size} {n₂ = 31} {m₂ = 4} (omega arith) (omega arith)) }

pub coefficients-c-requires : goal.coefficients-c-requires
coefficients-c-requires c = omega (arith, mul-le-mul {n₁ = c.args.k} {m₁ = c.args.size} {n₂ = 31} {m₂ = 4} (omega arith) (omega arith))

pub returns-then-k-b : goal.returns-then-k-b
unfolding value_in
returns-then-k-b c =
    let a = c.args in
    ap (λ (v : Field). v.0) c.sized_value.ensures
    ∙ ap (λ (cs : List ℕ). value_of (part cs 0 a.size) a.x) c.coefficients-c.ensures
    ∙ ap (λ (cs : List ℕ). value_of cs a.x) (part_front a.bytes.now _ 4 a.size c.requires.1)
    ∙ simp (lt-ltb a.k a.b (omega (arith, c.if-k-b.true)))
