-- A record of m bytes in its 32 places.
use Rattle.std.specs.Prelude.{◌≡◌, List, ℕ, ◌+◌, ◌≤◌, ◌<◌, length, get_or, take}
use Rattle.std.proofs.Common.{sym, ap, ◌∙◌, arith, ext_get_or, get_or-take, length-take-le}
use Rattle.std.proofs.Math.Decide.{dec_lt}
use Rattle.std.proofs.Math.ListN.{get_or-eq_default}
use Rattle.lists.specs.Lists.{Below}
use Rattle.block.specs.Block.{part}
use Rattle.block.proofs.Values.{get_d_part, length_part, below_part}
use Rattle.codeword.specs.Codeword.{Held}

module _ (m : ℕ) where
  -- past its bytes the places are 0
  pub zeros_past : (r : List ℕ) → length r ≡ m → (p : ℕ) → m ≤ p → get_or (part r 0 32) p 0 ≡ 0
  zeros_past r full p h = go (dec_lt p 32)
    where
      go : Dec (p < 32) → get_or (part r 0 32) p 0 ≡ 0
      go (yes l) = get_d_part r 0 32 p l ∙ get_or-eq_default r 0 {n = 0 + p} (omega arith)
      go (no l) = get_or-eq_default (part r 0 32) 0 {n = p} (omega (arith, length_part r 0 32))

  pub in_places_lem : (r : List ℕ) → length r ≡ m → Below 256 r → Held m (part r 0 32)
  in_places_lem r full small =
      record { size = length_part r 0 32; small = below_part 256 r 0 32 (omega arith) small; past = zeros_past r full }

  -- the m bytes are the record
  pub from_places : m ≤ 32 → (r : List ℕ) → length r ≡ m → take m (part r 0 32) ≡ r
  from_places high r full =
      let long : length (take m (part r 0 32)) ≡ m = length-take-le m (part r 0 32) (omega (arith, length_part r 0 32)) in
      ext_get_or 0 (take m (part r 0 32)) r (long ∙ sym full) (λ p h.
      get_or-take m (part r 0 32) p 0 (omega (arith, long)) ∙ get_d_part r 0 32 p (omega (arith, long)) ∙ ap (λ (k : ℕ). get_or r k 0) (omega arith))
