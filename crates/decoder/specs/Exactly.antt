-- THE THEOREM of the definition `decoded`, `exactly`: for n points, 4 to 31, it gives f exactly when f has d + 1 coefficients below 257
-- and meets at least n - t of them, and none exactly when no such f exists. Otherwise it refuses: `refused_1`, `refused_4`.
use Rattle.std.specs.Prelude.{◌≡◌, ◌↔◌, List, ℕ, ◌≤◌, length}
use Rattle.std.proofs.Math.Option.{none, some}
use Rattle.decoder.specs.Decoder.{IsAnswer, decoded, refusal_of, polynomial_of}

pub record Exactly (n : ℕ) (points : List ℕ) : Type 0 where
  pub accepts : refusal_of (decoded n points) ≡ 0
  pub finds : (f : List ℕ) → (polynomial_of n (decoded n points) ≡ some f) ↔ IsAnswer n points f
  pub misses : (polynomial_of n (decoded n points) ≡ none) ↔ ((f : List ℕ) → IsAnswer n points f → ⊥)

-- n in range, and n points
pub record Accepts (n : ℕ) (points : List ℕ) : Type 0 where
  pub low : 4 ≤ n
  pub high : n ≤ 31
  pub full : length points ≡ n
