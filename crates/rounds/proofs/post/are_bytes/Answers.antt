-- `post::are_bytes` meets its contract.
use Rattle.std.proofs.Common.{◌∙◌, rules, refl, arith}
use Rattle.std.proofs.lemmas.Iterator.{YieldsList-from_range}
use Rattle.std.proofs.lemmas.Iterator.Search.{all_from_yields_List}
use borrow.Author.Tests.{tests}
use Rattle.lists.specs.Library.{all_range}
use Rattle.agreement.specs.Post.{posted_by, sent_byte}
use Rattle.rounds.proofs.post.are_bytes.Goals as goal

pub returns : goal.returns
unfolding sent_byte
returns c = let a = c.args in
    all_from_yields_List (sent_byte (posted_by a.poster a.column a.inbox.now)) _ _ _ c.all.ensures.ran (YieldsList-from_range 0 a.column.m a.column.m refl (omega arith)) (λ x b q k. search (rules, tests))
    ∙ all_range (sent_byte (posted_by a.poster a.column a.inbox.now)) a.column.m
