-- `exchange::same_values` meets its contract.
use Rattle.std.proofs.Common.{◌∙◌, rules, refl, arith}
use Rattle.std.proofs.lemmas.Iterator.{YieldsList-from_range}
use Rattle.std.proofs.lemmas.Iterator.Search.{all_from_yields_List}
use borrow.Author.Tests.{tests}
use Rattle.lists.specs.Library.{all_range}
use Rattle.codeword.specs.Codeword.{across}
use Rattle.dispersal.specs.Laws.{same_at}
use Rattle.dispersal.proofs.exchange.same_values.Goals as goal

pub returns : goal.returns
unfolding same_at across
returns c =
    let P = same_at c.args.words.now c.args.i c.args.inbox.now c.args.at in
    all_from_yields_List P _ _ _ c.all.ensures.ran (YieldsList-from_range 0 c.args.b c.args.b refl (omega arith)) (λ x b q k. search (rules, tests)) ∙ all_range P c.args.b
