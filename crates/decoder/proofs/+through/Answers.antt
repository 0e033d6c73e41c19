-- `through` meets its contract.
use Rattle.std.proofs.Common.{sym, ap, ◌∙◌, ◌-◌, take}
use Rattle.decoder.specs.Decoder.{coefficients, through as through_of}
use Rattle.decoder.specs.Steps.{listed, pushed, through_none, through_step}
use Rattle.decoder.specs.declared.Coefficients.{Coefficients}
use Rattle.decoder.specs.declared.Four.{Four}
use Rattle.decoder.proofs.+through.Goals as goal

pub returns-then-k-eq0 : goal.returns-then-k-eq0
returns-then-k-eq0 t c =
    let a = c.args in
    through_none a.k (listed a.x) (listed a.v) c.if-k-eq0.true

pub returns : goal.returns
returns t c =
    let a = c.args in
    let s = c.slopes.result in
    c.push.ensures
    ∙ ap (λ (q : Coefficients). pushed a.v.a a.x.a q) (c.through-rest.ensures
    ∙ ap (λ (x : Four). coefficients (through_of (take (a.k - 1) (listed x)) (take (a.k - 1) (listed s)))) c.tail.ensures)
    ∙ sym (through_step a.k a.x a.v s c.if-k-eq0.false c.requires c.slopes.ensures)
