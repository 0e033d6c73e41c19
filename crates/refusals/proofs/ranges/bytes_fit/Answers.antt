-- `ranges::bytes_fit` meets its contract.
use Rattle.std.proofs.Common.{arith, le-ltb, lt→ltb, ltb}
use Rattle.lists.specs.Loops.{tested_from, tested_more, tested_done}
use Rattle.lists.specs.Tests.{or_left}
use Rattle.agreement.specs.Column.{byte_fits}
use Rattle.refusals.proofs.ranges.bytes_fit.Goals as goal

pub loop-p-init : goal.loop-p-init
unfolding byte_fits
loop-p-init c = (tested_from _ _ _ c.requires (λ p l. or_left (ltb p c.args.m) _ (lt→ltb p c.args.m l)), omega arith)

pub loop-p-preserved : goal.loop-p-preserved
unfolding byte_fits
loop-p-preserved c = let i = c.loop-p in
    (tested_more _ _ _ _ _ i.invariant.0 (omega arith) (simp (le-ltb i.p c.args.m i.invariant.1)), omega arith)

pub returns : goal.returns
returns c = tested_done _ _ _ _ c.loop-p.invariant.0 (omega arith)
