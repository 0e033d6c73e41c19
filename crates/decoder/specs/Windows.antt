-- Windows: k places side by side. Of t + 1 windows one has no place that an answer misses, since it misses t places at most, and the
-- polynomial through the points of that one is the answer.
use Rattle.std.specs.Prelude.{List, [], ◌∷◌, ℕ, zero, suc}

-- the k places after place a
unfoldable pub window : ℕ → ℕ → List ℕ
window a zero = []
window a (suc k) = suc a ∷ window (suc a) k
