-- `spreading::say_kept` meets its contract.
use Rattle.std.proofs.Common.{refl, ◌∙◌}
use Rattle.sizes.proofs.Refusals.{there}
use Rattle.protocols.specs.declared.Kind.TheVariants.{KeptPoints}
use Rattle.protocols.specs.Protocols.{width}
use Rattle.rounds.specs.Ready.{points_said}
use Rattle.rounds.proofs.spreading.say_kept.Goals as goal

pub unwrap-requires : goal.unwrap-requires
unfolding width
unwrap-requires c = there _ (c.send.ensures.0 ∙ points_said _ _ KeptPoints refl c.requires)
