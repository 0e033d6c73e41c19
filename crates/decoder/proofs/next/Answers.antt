-- `next` meets its contract.
use Rattle.std.proofs.Common.{◌≡◌, true, false, arith, rules}
use Rattle.std.proofs.iter.Serving.{serving}
use Rattle.std.proofs.lemmas.Iterator.{first_from_Range}
use Rattle.decoder.specs.Places.{usable as usable_of}
use Rattle.decoder.specs.Steps.{next_is}
use Rattle.decoder.proofs.next.Goals as goal

pub find-requires : goal.find-requires
find-requires c = grind (serving, arith)

pub returns : goal.returns
returns c =
    let a = c.args in
    let first = first_from_Range _ _ _ _ (λ x. usable_of a.points.now a.es.now x ≡ true) (λ x. usable_of a.points.now a.es.now x ≡ false) c.find.ensures.ran
    (λ x q k. search rules) (λ x q k. (search rules, search rules)) in
    rw (c.unwrap_or.ensures, c.max.ensures) (next_is _ _ c.requires.0 c.find.result first)
