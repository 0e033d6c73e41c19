-- `points::kept_points` meets its contract.
use Rattle.std.proofs.Common.{ap, arith, ◌∙◌, List, ℕ}
use Rattle.sizes.proofs.Laws.{blocks_le, accepted, few_blocks}
use Rattle.messages.specs.Messages.{said}
use Rattle.sizes.proofs.Refusals.{there, got}
use Rattle.dissemination.proofs.Laws.{said_own, kept_are}
use Rattle.dissemination.proofs.points.kept_points.Goals as goal

pub overflow_cast-b : goal.overflow_cast-b
overflow_cast-b c = record { fits = omega (arith, c.blocks-b.ensures, blocks_le c.args.n c.args.m) }

pub unwrap-values-requires : goal.unwrap-values-requires
unwrap-values-requires c = there _ (c.values.ensures.0 ∙ c.requires.0)

pub each_kept-requires : goal.each_kept-requires
each_kept-requires c =
    ((accepted c.args.n c.args.m c.args.own c.requires.0).range.columns_high, rw c.blocks-b.ensures c.requires.1)

pub returns : goal.returns
returns c =
    let a = c.args in
    c.each_kept.ensures
    ∙ kept_are a.n a.m a.own a.speaks a.bytes a.inbox.now _ _ c.blocks-b.ensures (λ i.
    ap (λ (l : List ℕ). said l i) c.silenced_unless-mine.ensures
    ∙ said_own a.n a.m a.speaks a.bytes a.own (few_blocks a.n a.m a.own c.requires.0) _
    (got _ c.values.ensures c.unwrap-values.ensures) i)
