-- What sound columns do in data dissemination, and what Definition 3.7 says of it. Of what unsound columns send nothing is said.
use Rattle.std.specs.Prelude.{◌≡◌, Bool, ◌&&◌, List, ℕ, suc, ◌≤◌, ◌<◌, T}
use Rattle.std.proofs.Math.Option.{some}
use Rattle.lists.specs.Lists.{count}
use Rattle.sizes.specs.Sizes.{faults, blocks}
use Rattle.messages.specs.Messages.{read_point, said}
use Rattle.messages.specs.Wall.{Wall, Sound, holds}
use Rattle.codeword.specs.Codeword.{Held}
use Rattle.dissemination.specs.Dissemination.{points, kept_point, record_of}

-- column j holds the record `held j` and has it for an input where `has j`; `P i k j` is the point of block k that column i received from
-- column j in the first round, `Q i k j` in the second. Between sound columns each is what Protocol 3.8 makes of what was sent
pub record Run (n m : ℕ) (H : ℕ → Bool) (has : ℕ → Bool) (held : ℕ → List ℕ) (P Q : ℕ → ℕ → ℕ → ℕ) : Type 0 where
  pub wall : Wall n H
  pub bytes_low : 1 ≤ m
  pub bytes_high : m ≤ 32
  pub spread : (i j k : ℕ) → Sound n H i → Sound n H j → k < blocks n m → P i k j ≡ read_point (said (points n m (has j) (held j) i) k)
  pub passed : (i j k : ℕ) → Sound n H i → Sound n H j → k < blocks n m → Q i k j ≡ read_point (kept_point n (P j k))

-- column i is sound and has the input r
abbrev pub inputs : (ℕ → Bool) → (ℕ → Bool) → (ℕ → List ℕ) → List ℕ → ℕ → Bool
inputs H has held r i = holds H held r i && has i

-- Definition 3.7, output consistency: where at least t + 1 sound columns have the input r, and no sound column has another one, every sound
-- column ends on r
abbrev pub Consistent : ℕ → ℕ → (ℕ → Bool) → (ℕ → Bool) → (ℕ → List ℕ) → (ℕ → ℕ → ℕ → ℕ) → Type 0
Consistent n m H has held Q =
    (r : List ℕ) → Held m r → suc (faults n) ≤ count (inputs H has held r) n → ((j : ℕ) → Sound n H j → T (has j) → held j ≡ r)
    → (i : ℕ) → Sound n H i → record_of n m (Q i) ≡ some r
