-- `decoding::are_bytes` meets its contract.
use Rattle.std.proofs.Common.{◌∙◌, rules, refl, arith}
use Rattle.std.proofs.lemmas.Iterator.{YieldsList-from_range}
use Rattle.std.proofs.lemmas.Iterator.Search.{all_from_yields_List}
use borrow.Author.Tests.{tests}
use Rattle.lists.specs.Library.{all_range}
use Rattle.dissemination.specs.Decoding.{byte_in}
use Rattle.dissemination.proofs.decoding.are_bytes.Goals as goal

pub returns : goal.returns
unfolding byte_in
returns c =
    let P = byte_in c.args.m c.args.from c.args.c in
    all_from_yields_List P _ _ _ c.all.ensures.ran (YieldsList-from_range 0 c.args.size c.args.size refl (omega arith)) (λ x b q k. search (rules, tests)) ∙ all_range P c.args.size
