-- The definitions, in document 01's order. A text is the list of its bytes.
use Rattle.std.specs.Prelude.{cond, List, [], ◌∷◌, ◌++◌, ℕ, zero, suc, ◌+◌, ◌/◌, ◌%◌, eqb, ltb, length, take, drop, get_or}
use Prim.Native.Char.{code}
use Prim.Native.String.{String, [] as end, ◌∷◌ as ◌then◌}
use Rattle.agreement.specs.declared.Entry.{Entry}
use Rattle.wall_run.specs.Run.{Outcomes, outcomes}
use Rattle.wall_run.specs.Row.{entry_at}
use Rattle.sheet.specs.Sheet.{columns, bytes}
use Rattle.protocols.specs.declared.Protocol.{Protocol}
use Rattle.sizes.specs.Sizes.{faults, degree, blocks}
use Rattle.protocols.specs.Protocols.{rounds_in}

-- WORDS AND NUMBERS

-- the bytes of a quoted text
unfoldable pub ascii : String → List ℕ
ascii end = []
ascii (c then s) = code c ∷ ascii s

-- f 0, f 1, .. f (n - 1), one text after the other
unfoldable pub joined : (ℕ → List ℕ) → ℕ → List ℕ
joined f zero = []
joined f (suc n) = joined f n ++ f n

-- the last decimal digit of a number
unfoldable pub digit : ℕ → ℕ
digit v = 48 + v % 10

-- a number of one to three digits, without leading zeros; of a longer one the last three
unfoldable pub decimal : ℕ → List ℕ
decimal v =
    cond (ltb v 10) (digit v ∷ [])
    (cond (ltb v 100) (digit (v / 10) ∷ digit v ∷ [])
    (digit (v / 100) ∷ digit (v / 10) ∷ digit v ∷ []))

-- a word, then a number
unfoldable pub named : List ℕ → ℕ → List ℕ
named word v = word ++ decimal v

-- the last hexadecimal digit of a number, 0 to 9 or a to f
unfoldable pub hex_digit : ℕ → ℕ
hex_digit v = cond (ltb (v % 16) 10) (48 + v % 16) (87 + v % 16)

-- "two lower-case hexadecimal digits a byte"
unfoldable pub hex : ℕ → List ℕ
hex byte = hex_digit (byte / 16) ∷ hex_digit byte ∷ []

-- byte p in hexadecimal
unfoldable pub hex_at : List ℕ → ℕ → List ℕ
hex_at bytes p = hex (get_or bytes p 0)

-- bytes 0 to m - 1 of a record
unfoldable pub hexes : ℕ → List ℕ → List ℕ
hexes m bytes = joined (hex_at bytes) m

-- LINES

-- "sizes, t, d, B, rounds"
unfoldable pub sizes_line : Protocol → ℕ → ℕ → List ℕ
sizes_line p n m =
    named (ascii "wall ") n
    ++ named (ascii " ") m
    ++ named (ascii " t ") (faults n)
    ++ named (ascii " d ") (degree n)
    ++ named (ascii " blocks ") (blocks n m)
    ++ named (ascii " rounds ") (rounds_in p n)
    ++ ascii "\n"

-- "the outcome .., or `none`"
unfoldable pub record_text : ℕ → Entry → List ℕ
record_text m e = cond e.has_record (hexes m e.bytes) (ascii "none")

-- "its number, mark, dispersal grade, last vote, and after the word `record` the outcome"
unfoldable pub sound_line : ℕ → ℕ → Entry → List ℕ
sound_line m i e =
    decimal i
    ++ named (ascii " sound grade ") e.grade
    ++ named (ascii " bit ") e.vote
    ++ ascii " record "
    ++ record_text m e
    ++ ascii "\n"

-- "an unsound column has its mark only"
unfoldable pub unsound_line : ℕ → List ℕ
unsound_line i = decimal i ++ ascii " unsound\n"

-- the line of column i; "each column is marked 0 sound or 1 unsound"
unfoldable pub column_line : ℕ → ℕ → Entry → List ℕ
column_line m i e = cond (eqb e.mark 0) (sound_line m i e) (unsound_line i)

-- the line of column i + 1; none past column 31, as a wall has no more
unfoldable pub line_at : ℕ → List Entry → ℕ → List ℕ
line_at m entries i = cond (ltb i 31) (column_line m (i + 1) (entry_at entries i)) []

-- "then per column": the lines of columns 1 to n
unfoldable pub column_lines : ℕ → ℕ → List Entry → List ℕ
column_lines n m entries = joined (line_at m entries) n

-- "or `refused` and a number"
unfoldable pub refused_line : ℕ → List ℕ
refused_line why = named (ascii "refused ") why ++ ascii "\n"

-- THE LISTING of n columns and records of m bytes, with what the run came to
unfoldable pub listing : Protocol → ℕ → ℕ → Outcomes → List ℕ
listing p n m o = cond (eqb o.refusal 0) (sizes_line p n m ++ column_lines n m o.entries) (refused_line o.refusal)

-- of a sheet, with a row that has a place for each of its columns
unfoldable pub listing_of : Protocol → List ℕ → List ℕ
listing_of p sheet = listing p (columns sheet) (bytes sheet) (outcomes p sheet (columns sheet))

-- what stands in a lent slice after a text was written to its front, as far as there is room; the rest as it was
unfoldable pub shown : List ℕ → List ℕ → List ℕ
shown text slice = take (length slice) (text ++ drop (length text) slice)
