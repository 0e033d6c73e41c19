-- The sound columns of a wall. Document 01, "The runs of the third demand": "Any choice of at most t of the n columns is unsound; the
-- others are sound."
use Rattle.std.specs.Prelude.{◌≡◌, Bool, not, ◌&&◌, List, ℕ, ◌≤◌, ◌<◌, T}
use Rattle.lists.specs.Lists.{count, same, in_row}
use Rattle.field.specs.Field.{blank}
use Rattle.sizes.specs.Sizes.{faults}

-- n columns, of which at most t are unsound; H is the test whether a column is sound
pub record Wall (n : ℕ) (H : ℕ → Bool) : Type 0 where
  pub low : 4 ≤ n
  pub high : n ≤ 31
  pub few : count (λ i. not (H i)) n ≤ faults n

-- i is a column, and sound
abbrev pub Sound : ℕ → (ℕ → Bool) → ℕ → Type 0
Sound n H i = (1 ≤ i) × (i ≤ n) × T (H i)

-- column i is sound and held the record r
abbrev pub holds : (ℕ → Bool) → (ℕ → List ℕ) → List ℕ → ℕ → Bool
holds H held r i = H i && same (held i) r

-- "Where sound column i listens in a round, the message from another sound column j is what j's call to speak wrote for i in that round; i's
-- own place holds anything." Messages have w values; `out j` is the slice that column j wrote, `inbox i` the one that column i listens to
unfoldable pub Delivered : ℕ → (ℕ → Bool) → ℕ → (ℕ → List ℕ) → (ℕ → List ℕ) → Type 0
Delivered n H w out inbox =
    (i j k : ℕ) → Sound n H i → Sound n H j → (j ≡ i → ⊥) → k < w → in_row w (inbox i) j k blank ≡ in_row w (out j) i k blank
