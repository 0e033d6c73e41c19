-- `Letter::value` meets its contract.
use Rattle.std.proofs.Common.{◌≡◌, ◌∙◌, sym, arith, ◌+◌, ◌-◌}
use Rattle.delivery.specs.Delivery.{lied, sent}
use Rattle.delivery.specs.Places.{place_value}
use Rattle.delivery.proofs.Letter.value.Goals as goal

pub returns-then-self : goal.returns-then-self
unfolding sent
returns-then-self c = rw (sym c.requires.honest ∙ c.if-self.true, sym c.requires.all) c.mailed.ensures

pub returns : goal.returns
unfolding sent lied
returns c =
    let l = c.requires in
    let j : c.args.self.j + 1 - 1 ≡ c.args.self.j = omega arith in
    c.word.ensures ∙ rw (sym l.honest ∙ c.if-self.false, j, l.here.is) (place_value _ _ _ _ c.args.k)
