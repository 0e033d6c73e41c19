-- `write_past` meets its contract.
use Rattle.std.proofs.Common.{arith, length-take-le, refl}
use Rattle.lists.specs.Loops.{filled_none, filled_more, filled_done}
use Rattle.messages.proofs.write_past.Goals as goal

pub loop-k-init : goal.loop-k-init
loop-k-init c = filled_none _ _ _ (omega (arith, length-take-le c.args.w c.args.part.now c.requires))

pub loop-k-preserved : goal.loop-k-preserved
loop-k-preserved c = filled_more _ _ _ _ _ _ c.loop-k.invariant (omega (arith, c.loop-k-test.true, c.loop-k.invariant.same, length-take-le c.args.w c.args.part.now c.requires)) c.value.ensures

pub returns : goal.returns
returns c = rw (filled_done _ _ _ _ _ c.loop-k.invariant (omega (arith, c.loop-k-test.false, length-take-le c.args.w c.args.part.now c.requires)) (omega (arith, length-take-le c.args.w c.args.part.now c.requires))) refl
