-- `decoding::block` meets its contract.
use Rattle.std.proofs.Common.{◌≡◌, ◌≤◌, sym, ap, arith, length-take-le, ◌∙◌, List, ℕ, length, take}
use Rattle.lists.specs.Entries.{length_list_of}
use Rattle.lists.specs.Lists.{list_of}
use Rattle.sizes.specs.Sizes.{refusal as refusal_of_sizes}
use Rattle.sizes.proofs.Laws.{accepted as sizes_accepted}
use Rattle.sizes.proofs.Refusals.{there}
use Rattle.decoder.specs.Decoder.{decoded, decoded_in}
use Rattle.decoder.proofs.Exactly.{answered, accepts_of}
use Rattle.dissemination.specs.Laws.{read_at}
use Rattle.dissemination.proofs.Laws.{points_taken}
use Rattle.dissemination.proofs.decoding.block.Goals as goal

-- there are n points among the 31 that were read
fits : (n : ℕ) (points heard : List ℕ) → refusal_of_sizes n 1 1 ≡ 0 → points ≡ list_of (read_at heard) 31 → n ≤ length points
fits n points heard e p = omega (arith, (sizes_accepted n 1 1 e).range.columns_high, ap length p, length_list_of (read_at heard) 31)

pub slice_bounds-points-end : goal.slice_bounds-points-end
slice_bounds-points-end c = fits _ _ _ c.requires c.read_points-points.ensures

pub slice_bounds-decode-end : goal.slice_bounds-decode-end
slice_bounds-decode-end c = sym (length-take-le _ _ (fits _ _ _ c.requires c.read_points-points.ensures))

pub unwrap-requires : goal.unwrap-requires
unwrap-requires c = there _ (answered _ _ (accepts_of _ _ c.requires (length-take-le _ _ (fits _ _ _ c.requires c.read_points-points.ensures))) _ c.decode.ensures)

pub returns : goal.returns
returns c = let a = c.args in
    ap decoded_in (sym c.unwrap.ensures) ∙ c.decode.ensures ∙ ap (λ (l : List ℕ). decoded a.n (take a.n l)) (c.read_points-points.ensures ∙ ap (λ (l : List ℕ). list_of (read_at l) 31) c.heard_of_all-heard.ensures)
    ∙ ap (decoded a.n) (points_taken a.n a.own _ a.w a.inbox.now a.k (sizes_accepted a.n 1 1 c.requires).range.columns_high)
