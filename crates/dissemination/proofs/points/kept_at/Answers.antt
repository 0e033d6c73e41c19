-- `points::kept_at` meets its contract.
use Rattle.std.proofs.Common.{ap, ◌∙◌, ℕ}
use Rattle.dissemination.specs.Dissemination.{kept_point}
use Rattle.dissemination.specs.Laws.{heard_of}
use Rattle.dissemination.proofs.Laws.{kept_from_lem, kept_past}
use Rattle.dissemination.proofs.points.kept_at.Goals as goal

pub returns-then-b-k : goal.returns-then-b-k
returns-then-b-k c = kept_past _ _ _ _ _ _ c.if-b-k.true

pub returns : goal.returns
returns c =
    let a = c.args in
    c.kept_point.ensures
    ∙ ap (λ (v : ℕ). kept_point a.n (heard_of a.own v a.b a.inbox.now a.k)) c.value.ensures
    ∙ kept_from_lem a.n a.own a.mine.now a.b a.inbox.now a.k c.if-b-k.false c.requires.1
