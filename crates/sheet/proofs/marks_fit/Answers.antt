-- `marks_fit` meets its contract.
use Rattle.std.proofs.Common.{◌∙◌, rules, refl, arith}
use Rattle.std.proofs.lemmas.Iterator.{YieldsList-from_range}
use Rattle.std.proofs.lemmas.Iterator.Search.{all_from_yields_List}
use borrow.Author.Tests.{tests}
use Rattle.lists.specs.Library.{all_range}
use Rattle.sheet.specs.Sheet.{mark_fits}
use Rattle.sheet.proofs.marks_fit.Goals as goal

pub returns : goal.returns
returns c =
    all_from_yields_List (mark_fits c.args.sheet.now) _ _ _ c.all.ensures.ran (YieldsList-from_range 0 c.args.n c.args.n refl (omega arith)) (λ x b q k. search (rules, tests))
    ∙ all_range (mark_fits c.args.sheet.now) c.args.n
