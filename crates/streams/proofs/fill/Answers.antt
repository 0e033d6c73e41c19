-- `fill` meets its contract.
use Rattle.std.proofs.Common.{rules, subst, sym}
use Rattle.std.specs.Io.KnownBytes.{Consumes}
use Rattle.std.proofs.KnownBytes.{Consumes-trans}
use Rattle.streams.proofs.Filling.{taken}
use Rattle.streams.proofs.fill.Goals as goal

pub loop-came-preserved : goal.loop-came-preserved
loop-came-preserved g c =
    let read = c.in_ok-more.ensures in
    let before = c.loop-came.invariant in
    let part = taken _ _ c.in_ok-more.more c.loop-came.room c.read.new.buf before.0 read.bound.0 in
    (search rules, subst (Consumes _ _) (sym part) (Consumes-trans _ _ _ _ _ before.1 read.bytes.0))
