-- `decode` meets its contract.
use Rattle.std.proofs.Common.{ap, sym, ◌∙◌}
use Rattle.sizes.proofs.Refusals.{some, handed_on}
use Rattle.decoder.specs.Decoder.{Refused, decoded_in}
use Rattle.decoder.proofs.Exactly.{refused_columns, refused_points, accepts_of}
use Rattle.decoder.proofs.decode.Goals as goal

pub returns-in_err-refusal : goal.returns-in_err-refusal
returns-in_err-refusal c =
    let a = c.args in
    let e = c.in_err-refusal.ensures in
    ap decoded_in (handed_on _ c.from_residual.result c.from_residual.ensures.1) ∙ ap Refused e ∙ sym (refused_columns a.n a.points.now (λ z. some _ (e ∙ z)))

pub returns-then-points-n : goal.returns-then-points-n
returns-then-points-n c =
    let a = c.args in
    sym (refused_points a.n a.points.now (sym c.in_ok-refusal.ensures) c.if-points-n.true)

pub answer-requires : goal.answer-requires
answer-requires c = accepts_of _ _ (sym c.in_ok-refusal.ensures) c.if-points-n.false
