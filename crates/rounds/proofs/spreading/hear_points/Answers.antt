-- `spreading::hear_points` meets its contract.
use Rattle.std.proofs.Common.{refl, ◌∙◌}
use Rattle.sizes.proofs.Refusals.{there}
use Rattle.protocols.specs.declared.Kind.TheVariants.{Points}
use Rattle.protocols.specs.Protocols.{width}
use Rattle.rounds.specs.Ready.{points_heard}
use Rattle.rounds.proofs.spreading.hear_points.Goals as goal

pub unwrap-kept-requires : goal.unwrap-kept-requires
unfolding width
unwrap-kept-requires c = there _ (c.kept.ensures.0 ∙ points_heard _ _ Points refl c.requires)
