-- `spreading::hear_kept` meets its contract.
use Rattle.std.proofs.Common.{◌∙◌, refl, sym, Some, None}
use Rattle.sizes.proofs.Refusals.{there}
use Rattle.protocols.specs.declared.Kind.TheVariants.{KeptPoints}
use Rattle.protocols.specs.Protocols.{width}
use Rattle.agreement.specs.Rounds.{ends_on}
use Rattle.rounds.specs.Ready.{points_heard}
use Rattle.rounds.specs.Endings.{ends_silent, ends_found}
use Rattle.rounds.proofs.spreading.hear_kept.Goals as goal

pub returns-then-not-votes_one : goal.returns-then-not-votes_one
returns-then-not-votes_one c = c.ended.ensures ∙ ends_silent _ _ (sym c.votes_one.ensures ∙ c.if-not-votes_one.true)

pub unwrap-requires : goal.unwrap-requires
unfolding width
unwrap-requires c = there _ (c.decode-decoded.ensures.0 ∙ points_heard _ _ KeptPoints refl c.requires)

pub returns-in-None : goal.returns-in-None
unfolding ends_on
returns-in-None c = c.ended-in-None.ensures ∙ ends_found _ _ (sym c.votes_one.ensures ∙ c.if-not-votes_one.false) None _ c.decode-decoded.ensures.1 c.in-None.ensures

pub returns-in-Some : goal.returns-in-Some
unfolding ends_on
returns-in-Some c = c.ended-in-Some.ensures ∙ ends_found _ _ (sym c.votes_one.ensures ∙ c.if-not-votes_one.false) (Some c.in-Some.bytes) _ c.decode-decoded.ensures.1 c.in-Some.ensures
