-- The definitions of a whole wall and of a block on plain slices: for every input the number that a call answers, 0 or document 01's of a refusal, and
-- what stands in the lent slice after it.
use Rattle.std.specs.Prelude.{cond, List, [], ◌∷◌, ◌++◌, ℕ, ◌%◌, ◌/◌, eqb, length, replicate}
use Rattle.field.specs.Field.{blank}
use Rattle.protocols.specs.declared.Protocol.{Protocol}
use Rattle.messages.specs.Messages.{refusal, unless_refused}
use Rattle.decoder.specs.Decoder.{Decoded}
use Rattle.decoder.specs.Decoder.{Polynomial, Nothing, Refused}
use Rattle.decoder.specs.Decoder.{decoded, four}
use Rattle.decoder.specs.Decoder as D
use Rattle.agreement.specs.declared.Entry.{Entry}
use Rattle.wall_run.specs.Run.{entries}
use Rattle.wall_run.specs.Run as W
use Rattle.state_bytes.specs.Entry.{entry_length, entry_bytes}

-- A WALL

-- one entry after the other
unfoldable pub row_bytes : List Entry → List ℕ
row_bytes [] = []
row_bytes (e ∷ es) = entry_bytes e ++ row_bytes es

-- how many entries a slice holds: none where it ends within one
unfoldable pub places : List ℕ → ℕ
places row = cond (eqb (length row % entry_length) 0) (length row / entry_length) 0

unfoldable pub wall_answer : Protocol → List ℕ → List ℕ → ℕ
wall_answer p sheet row = W.refusal p sheet (places row)

unfoldable pub wall_row : Protocol → List ℕ → List ℕ → List ℕ
wall_row p sheet row = unless_refused (wall_answer p sheet row) (row_bytes (entries p sheet)) row

-- A BLOCK. Four coefficients, the constant term first, or four blanks for none

unfoldable pub coefficients_of : Decoded → List ℕ
coefficients_of (Polynomial c) = four c
coefficients_of Nothing = replicate 4 blank
coefficients_of (Refused why) = replicate 4 blank

unfoldable pub block_answer : ℕ → List ℕ → List ℕ → ℕ
block_answer n points out = refusal (D.refusal_of (decoded n points)) 1 4 (length out)

unfoldable pub block_out : ℕ → List ℕ → List ℕ → List ℕ
block_out n points out = unless_refused (block_answer n points out) (coefficients_of (decoded n points)) out
