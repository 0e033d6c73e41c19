-- `post::message` meets its contract.
use Rattle.std.proofs.Common.{refl, arith, get_or, ◌∙◌, eq-eqb}
use Rattle.lists.specs.Entries.{list_of_get_d}
use Rattle.lists.specs.Library.{list_of_at}
use Rattle.dissemination.specs.Laws.{silenced}
use Rattle.rounds.proofs.post.message.Goals as goal

pub returns : goal.returns
unfolding silenced
returns c =
    list_of_at (λ p. get_or c.args.column.bytes p 0) _ 0 _ c.from_fn.ensures.items.long (λ p h. let k = c.from_fn.ensures.items.at p 0 h in grind arith)
    ∙ list_of_get_d _ 32 0 (search arith) ∙ rw (eq-eqb _ _ c.if-column-poster.false) refl
