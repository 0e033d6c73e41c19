-- `spreading::say_points` meets its contract.
use Rattle.std.proofs.Common.{refl, ◌∙◌}
use Rattle.sizes.proofs.Refusals.{there}
use Rattle.protocols.specs.declared.Kind.TheVariants.{Points}
use Rattle.protocols.specs.Protocols.{width}
use Rattle.rounds.specs.Ready.{points_said}
use Rattle.rounds.proofs.spreading.say_points.Goals as goal

pub unwrap-requires : goal.unwrap-requires
unfolding width
unwrap-requires c = there _ (c.send.ensures.0 ∙ points_said _ _ Points refl c.requires)
