-- `write_across` meets its contract.
use Rattle.std.proofs.Common.{refl, arith, length-take-le}
use Rattle.lists.specs.Loops.{filled_none, filled_more, filled_done}
use Rattle.codeword.specs.Codeword.{across}
use Rattle.codeword.proofs.write_across.Goals as goal

pub loop-k-init : goal.loop-k-init
loop-k-init c = filled_none _ _ _ (omega (arith, length-take-le c.args.b c.args.part.now c.requires.2))

pub loop-k-preserved : goal.loop-k-preserved
unfolding across
loop-k-preserved c =
    filled_more _ _ _ _ _ _ c.loop-k.invariant (omega (arith, c.loop-k-test.true, c.loop-k.invariant.same, length-take-le c.args.b c.args.part.now c.requires.2)) refl

pub returns : goal.returns
returns c =
    let e = length-take-le c.args.b c.args.part.now c.requires.2 in
    rw (filled_done _ _ _ _ _ c.loop-k.invariant (omega (arith, c.loop-k-test.false, e)) (omega (arith, e))) refl
