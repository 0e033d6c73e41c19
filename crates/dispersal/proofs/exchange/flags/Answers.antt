-- `exchange::flags` meets its contract.
use Rattle.std.proofs.Common.{refl, replicate, ◌∙◌, ◌≤◌, arith}
use Rattle.field.specs.Field.{blank}
use Rattle.sizes.proofs.Laws.{blocks_le, accepted, few_blocks, column_of_lem}
use Rattle.sizes.proofs.Refusals.{there}
use Rattle.codeword.specs.Words.{codewords_accepted, codewords_in, length_written, across_accepted}
use Rattle.dispersal.specs.Laws.{agreements_are}
use Rattle.dispersal.proofs.exchange.flags.Goals as goal

pub overflow_cast-b : goal.overflow_cast-b
overflow_cast-b c = record { fits = omega (arith, c.blocks-b.ensures, blocks_le c.args.n c.args.m) }

pub unwrap-requires : goal.unwrap-requires
unwrap-requires c = there _ (c.codewords.ensures.0 ∙ codewords_accepted _ _ _ (replicate 1024 blank) c.requires.0 refl)

pub unwrap-requires-2 : goal.unwrap-requires-2
unwrap-requires-2 c =
    let few : c.blocks-b.result ≤ 32 = omega (arith, few_blocks c.args.n c.args.m c.args.own c.requires.0, c.blocks-b.ensures) in
    let a = accepted c.args.n c.args.m c.args.own c.requires.0 in
    let long = length_written _ _ _ _ (replicate 1024 blank) _ c.requires.0 refl c.codewords.ensures.1 in
    there _
    (c.write.ensures.0
    ∙ across_accepted _ _ _ _ _ (column_of_lem c.args.n c.args.m c.args.own c.args.own c.requires.0 a.number_low a.number_high) (omega (arith, few, long)) few)

pub each_agreement-requires : goal.each_agreement-requires
each_agreement-requires c =
    let b = c.blocks-b.ensures in
    let few = few_blocks c.args.n c.args.m c.args.own c.requires.0 in (
      (accepted c.args.n c.args.m c.args.own c.requires.0).range.columns_high,
      omega (arith, few, b),
      omega (arith, few, b, length_written _ _ _ _ (replicate 1024 blank) _ c.requires.0 refl c.codewords.ensures.1),
      rw b c.requires.1,
    )

pub returns : goal.returns
returns c =
    let b = c.blocks-b.ensures in
    rw b at c.each_agreement.ensures
    ∙ agreements_are _ _ _ _ _ _ _ c.requires.0 c.requires.1 (c.codewords.ensures.1 ∙ codewords_in _ _ _ _ (replicate 1024 blank) c.requires.0 refl) (rw b at c.write.ensures.1)
