-- `ranges::fits` meets its contract.
use Rattle.std.proofs.Common.{sym, eqb→eq, ◌∙◌, T, eqb}
use Rattle.lists.specs.Tests.{conj, passes}
use Rattle.sizes.specs.Sizes.{refusal}
use Rattle.sizes.proofs.Laws.{accepted}
use Rattle.agreement.specs.Column.{names_fit, numbers_fit}
use Rattle.refusals.proofs.ranges.fits.Goals as goal

pub arrays_fit-requires : goal.arrays_fit-requires
unfolding numbers_fit names_fit
arrays_fit-requires c =
    let a = c.args in
    let t : T (numbers_fit a.column) = passes _ (sym c.numbers_fit.ensures ∙ c.if-numbers_fit.true) in
    let e : T (eqb (refusal a.column.n a.column.m a.column.own) 0) = search conj in
    (accepted _ _ _ (eqb→eq _ 0 e)).range
