-- What sound columns do in graded dispersal, and what Definition 3.1 says of it. Of what unsound columns send nothing is said.
use Rattle.std.specs.Prelude.{◌≡◌, Bool, ◌&&◌, List, ℕ, suc, ◌≤◌, eqb, leb}
use Rattle.lists.specs.Lists.{count}
use Rattle.sizes.specs.Sizes.{faults}
use Rattle.messages.specs.Messages.{read_report, said}
use Rattle.messages.specs.Wall.{Wall, Sound, holds}
use Rattle.codeword.specs.Codeword.{Held}
use Rattle.dispersal.specs.Dispersal.{exchange, agrees_with, agrees, first_report, reported, second_report, grade}

-- column i held the record `held i`; its sets of agreements and reports are `A i` and `R i`, and `S i j` is the second report that it
-- received from column j. Between sound columns each is what Protocol 3.2 makes of the message that was sent
pub record Run (n m : ℕ) (H : ℕ → Bool) (held : ℕ → List ℕ) (A R : ℕ → List Bool) (S : ℕ → ℕ → ℕ) : Type 0 where
  pub wall : Wall n H
  pub bytes_low : 1 ≤ m
  pub bytes_high : m ≤ 32
  pub records : (i : ℕ) → Sound n H i → Held m (held i)
  pub exchanged : (i j : ℕ) → Sound n H i → Sound n H j → agrees (A i) j ≡ agrees_with n m i (held i) j (said (exchange n m j (held j) i))
  pub first : (i j : ℕ) → Sound n H i → Sound n H j → reported (R i) j ≡ eqb (read_report (first_report n (agrees (A j)))) 1
  pub second : (i j : ℕ) → Sound n H i → Sound n H j → S i j ≡ second_report n j (agrees (A j)) (reported (R j))

-- the grade with which column i leaves
abbrev pub grade_of : ℕ → (ℕ → List Bool) → (ℕ → List Bool) → (ℕ → ℕ → ℕ) → ℕ → ℕ
grade_of n A R S i = grade n i (agrees (A i)) (reported (R i)) (S i)

-- column i is sound, held the record r and leaves with grade 1 or 2
abbrev pub keeps : (ℕ → Bool) → (ℕ → List ℕ) → (ℕ → ℕ) → List ℕ → ℕ → Bool
keeps H held g r i = holds H held r i && leb 1 (g i)

-- Definition 3.1, with the grades g
pub record Graded (n : ℕ) (H : ℕ → Bool) (held : ℕ → List ℕ) (g : ℕ → ℕ) : Type 0 where
  -- where all sound columns held one record, all leave with grade 2
  pub validity : (r : List ℕ) → ((i : ℕ) → Sound n H i → held i ≡ r) → (i : ℕ) → Sound n H i → g i ≡ 2
  -- a sound grade 2: at least t + 1 sound columns, itself counted, held its record and leave with grade 1 or 2
  pub enough : (c : ℕ) → Sound n H c → g c ≡ 2 → suc (faults n) ≤ count (keeps H held g (held c)) n
  -- and every sound column that held another record leaves with grade 0
  pub others : (c i : ℕ) → Sound n H c → Sound n H i → g c ≡ 2 → (held i ≡ held c → ⊥) → g i ≡ 0
