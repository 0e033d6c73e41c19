-- `post::taken` meets its contract.
use Rattle.std.proofs.Common.{rules, refl, sym, ◌∙◌}
use Rattle.lists.specs.Library.{list_of_at}
use Rattle.agreement.specs.Post.{posted_by, posted_byte, taken_record}
use Rattle.rounds.proofs.post.taken.Goals as goal

pub returns : goal.returns
unfolding taken_record
returns c = let a = c.args in
    list_of_at (posted_byte a.column.m (posted_by a.poster a.column a.inbox.now)) _ 0 _ c.from_fn.ensures.items.long (λ p h. let k = c.from_fn.ensures.items.at p 0 h in search rules)
    ∙ rw (sym c.are_bytes.ensures ∙ c.if-not-are_bytes.false) refl
