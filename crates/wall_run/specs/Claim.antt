-- THE THIRD DEMAND OF A WALL RUN, as a statement. Document 01, "The runs of the third demand": "as soon as a wall run can be called, it is
-- owed too of the entries of every run that is not refused, sound being the columns marked 0 and the lines what the unsound send." It is
-- proved in Theorem, what a wall has settled in Settling, and Definition 3.10 in Posting.
use Rattle.std.specs.Prelude.{◌≡◌, List, ℕ, ◌-◌, get_or}
use Rattle.messages.specs.Wall.{Sound}
use Rattle.machine.specs.Claim.{Agreed}
use Rattle.machine.specs.Gradecast.{Gradecast}
use Rattle.sheet.specs.Sheet.{columns, bytes, sound, record_of}
use Rattle.agreement.specs.declared.Entry.{Entry}
use Rattle.agreement.specs.Entries.{mark_only, ended_on}

-- column i's entry of a row
unfoldable pub entry_of_column : List Entry → ℕ → Entry
entry_of_column row i = get_or row (i - 1) (mark_only 0)

-- "sound being the columns marked 0": `sound sheet`; column i held its record of the sheet at the start and has the entry `entry i`
abbrev pub Demand : List ℕ → (ℕ → Entry) → Type 0
Demand sheet entry = Agreed (columns sheet) (sound sheet) (record_of sheet) (λ i. ended_on (bytes sheet) (entry i)) (λ i. (entry i).grade)

-- AFTER THE FIRST SOUND KING, document 02, request i: an entry has the last vote, and it is one for all sound columns
abbrev pub Settled : List ℕ → (ℕ → Entry) → Type 0
Settled sheet entry = (bit : ℕ) × ((i : ℕ) → Sound (columns sheet) (sound sheet) i → (entry i).vote ≡ bit)

-- DEFINITION 3.10 OF A POSTING WALL: column s posts its record of the sheet
pub record Posted (s : ℕ) (sheet : List ℕ) (entry : ℕ → Entry) : Type 0 where
  -- of the grades and records in the entries of all sound columns
  pub gradecast : Gradecast (columns sheet) (sound sheet) s (record_of sheet s) (λ i. (entry i).grade) (λ i. ended_on (bytes sheet) (entry i))
  -- "and vote 1"
  pub votes : (i : ℕ) → Sound (columns sheet) (sound sheet) i → (entry i).vote ≡ 1
