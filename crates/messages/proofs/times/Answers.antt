-- `times` meets its contract.
use Rattle.std.proofs.Common.{◌∙◌, ap, eqb, List, ℕ, Bool}
use Rattle.std.specs.List.{count_by}
use Rattle.std.proofs.lemmas.List.{take_all}
use Rattle.field.specs.Field.{blank}
use Rattle.lists.specs.Library.{count_front}
use Rattle.messages.specs.Messages.{times, from}
use Rattle.messages.proofs.Laws.{front}
use Rattle.messages.proofs.times.Goals as goal

pub returns : goal.returns
unfolding times from
returns c = let a = c.args in
    let got = c.in-Some.ensures.lookup.0 in
    let passes : ℕ → Bool = λ x. eqb x a.v in
    c.loop-x.invariant ∙ ap (λ (l : List ℕ). count_by passes l) (take_all c.loop-x.x-index c.in-Some.all.now c.loop-x-test.false ∙ got.2 ∙ front a.values.now a.n)
    ∙ count_front passes a.values.now blank a.n got.1
