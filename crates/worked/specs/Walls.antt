-- The sheets of the worked walls, byte by byte: sizes, marks, records, then the lines of the unsound columns, for each receiver its values
-- round by round.
use Rattle.std.specs.Prelude.{List, [], ◌∷◌, ◌++◌, ℕ, ◌*◌, replicate}

-- k values that are blank, FF FF each
abbrev blanks : ℕ → List ℕ
blanks k = replicate (2 * k) 0xff

-- SHEETS OF DOCUMENT 01

-- "04 01, 00 00 00 01, 41 41 42 00; lines to column 1: 41 00 41 00 01 00 01 00 and 16 bytes FF; to column 2: 41 00 41 00 01 00 and 18 bytes FF; to
-- columns 3 and 4: 24 bytes FF each"
abbrev pub sheet : List ℕ
sheet =
    (4 ∷ 1 ∷ [])
    ++ (0 ∷ 0 ∷ 0 ∷ 1 ∷ [])
    ++ (0x41 ∷ 0x41 ∷ 0x42 ∷ 0 ∷ [])
    ++ (0x41 ∷ 0 ∷ 0x41 ∷ 0 ∷ 1 ∷ 0 ∷ 1 ∷ 0 ∷ [])
    ++ blanks 8
    ++ (0x41 ∷ 0 ∷ 0x41 ∷ 0 ∷ 1 ∷ 0 ∷ [])
    ++ blanks 9
    ++ blanks 24

-- "Records 41 41 41, column 4 blank", and "Records 41 41 42, column 4 blank"
abbrev pub alike : List ℕ
alike = (4 ∷ 1 ∷ []) ++ (0 ∷ 0 ∷ 0 ∷ 1 ∷ []) ++ (0x41 ∷ 0x41 ∷ 0x41 ∷ 0 ∷ []) ++ blanks 48

abbrev pub apart : List ℕ
apart = (4 ∷ 1 ∷ []) ++ (0 ∷ 0 ∷ 0 ∷ 1 ∷ []) ++ (0x41 ∷ 0x41 ∷ 0x42 ∷ 0 ∷ []) ++ blanks 48

-- FURTHER WALLS

-- six columns: n - t is 5 and 2t + 1 is 3. Column 6 exchanges with columns 1 to 4 as if it held 41, and reports to columns 1 to 3 alone. These
-- receive three second reports, and that is enough for grade 2
abbrev pub six : List ℕ
six =
    (6 ∷ 1 ∷ [])
    ++ (0 ∷ 0 ∷ 0 ∷ 0 ∷ 0 ∷ 1 ∷ [])
    ++ (0x41 ∷ 0x41 ∷ 0x41 ∷ 0x41 ∷ 0x42 ∷ 0 ∷ [])
    ++ (0x41 ∷ 0 ∷ 0x41 ∷ 0 ∷ 1 ∷ 0 ∷ [])
    ++ blanks 9
    ++ (0x41 ∷ 0 ∷ 0x41 ∷ 0 ∷ 1 ∷ 0 ∷ [])
    ++ blanks 9
    ++ (0x41 ∷ 0 ∷ 0x41 ∷ 0 ∷ 1 ∷ 0 ∷ [])
    ++ blanks 9
    ++ (0x41 ∷ 0 ∷ 0x41 ∷ 0 ∷ [])
    ++ blanks 10
    ++ blanks 24

-- ten columns, so d = 1: two blocks of two bytes for records of three. Column 2 is silent but for the last round, in which it sends every
-- column other wrong points, one a block
abbrev wrong : ℕ → ℕ → List ℕ
wrong first second = blanks 20 ++ (first ∷ 0 ∷ second ∷ 0 ∷ [])

abbrev pub ten : List ℕ
ten =
    (10 ∷ 3 ∷ [])
    ++ (0 ∷ 1 ∷ 0 ∷ 0 ∷ 0 ∷ 0 ∷ 0 ∷ 0 ∷ 0 ∷ 0 ∷ [])
    ++ (0xff ∷ 0x01 ∷ 0x41 ∷ [])
    ++ (0 ∷ 0 ∷ 0 ∷ [])
    ++ (0xff ∷ 0x01 ∷ 0x41 ∷ [])
    ++ (0xff ∷ 0x01 ∷ 0x41 ∷ [])
    ++ (0xff ∷ 0x01 ∷ 0x41 ∷ [])
    ++ (0xff ∷ 0x01 ∷ 0x41 ∷ [])
    ++ (0xff ∷ 0x01 ∷ 0x41 ∷ [])
    ++ (0xff ∷ 0x01 ∷ 0x41 ∷ [])
    ++ (0xff ∷ 0x01 ∷ 0x41 ∷ [])
    ++ (0xff ∷ 0x01 ∷ 0x41 ∷ [])
    ++ wrong 1 0x42
    ++ blanks 22
    ++ wrong 3 0x44
    ++ wrong 4 0x45
    ++ wrong 5 0x46
    ++ wrong 6 0x47
    ++ wrong 7 0x48
    ++ wrong 8 0x49
    ++ wrong 9 0x4a
    ++ wrong 10 0x4b

-- a firm vote meets a lying king: all sound columns are firm with 1. Column 2, king of the last phase, says 0 to column 1 and 1 to the others,
-- and sends these the point 41 in the last round. Whoever lets the king overrule a firm vote ends on none at column 1 alone
abbrev pub firm : List ℕ
firm =
    (4 ∷ 1 ∷ [])
    ++ (0 ∷ 1 ∷ 0 ∷ 0 ∷ [])
    ++ (0x41 ∷ 0 ∷ 0x41 ∷ 0x41 ∷ [])
    ++ blanks 9
    ++ (0 ∷ 0 ∷ [])
    ++ blanks 2
    ++ blanks 12
    ++ blanks 9
    ++ (1 ∷ 0 ∷ [])
    ++ blanks 1
    ++ (0x41 ∷ 0 ∷ [])
    ++ blanks 9
    ++ (1 ∷ 0 ∷ [])
    ++ blanks 1
    ++ (0x41 ∷ 0 ∷ [])

-- the king lies (examples/lying-king.sheet): column 1, king of the first phase, leaves columns 2, 3 and 4 with grades 2, 1 and 0, so that their votes differ, and
-- as king it tells columns 2 and 3 to vote 1 and column 4 to vote 0. Its lines, by the receiver's record, second report and votes to it
abbrev told : ℕ → List ℕ → List ℕ → List ℕ
told r second votes = (r ∷ 0 ∷ r ∷ 0 ∷ 1 ∷ 0 ∷ []) ++ second ++ votes ++ blanks 1 ++ (0x42 ∷ 0 ∷ 0x42 ∷ 0 ∷ [])

abbrev pub lying_king : List ℕ
lying_king =
    (4 ∷ 1 ∷ [])
    ++ (1 ∷ 0 ∷ 0 ∷ 0 ∷ [])
    ++ (0 ∷ 0x41 ∷ 0x41 ∷ 0x42 ∷ [])
    ++ blanks 12
    ++ told 0x41 (1 ∷ 0 ∷ []) ((1 ∷ 0 ∷ []) ++ blanks 1 ++ (1 ∷ 0 ∷ 1 ∷ 0 ∷ []) ++ blanks 1)
    ++ told 0x41 (blanks 1) ((1 ∷ 0 ∷ []) ++ blanks 1 ++ (1 ∷ 0 ∷ 0 ∷ 0 ∷ 0 ∷ 0 ∷ []))
    ++ told 0x42 (1 ∷ 0 ∷ []) ((1 ∷ 0 ∷ []) ++ blanks 1 ++ (0 ∷ 0 ∷ 0 ∷ 0 ∷ 0 ∷ 0 ∷ []))

-- POSTINGS: lines of m + 4B + 2 values, the posting, two of the exchange, two reports, a point and a kept point

-- column 1 posts 41; column 4 is unsound and says that 42 was posted
abbrev lie : List ℕ
lie = 0x42 ∷ 0 ∷ 0x42 ∷ 0 ∷ 0x42 ∷ 0 ∷ 1 ∷ 0 ∷ 1 ∷ 0 ∷ 0x42 ∷ 0 ∷ 0x42 ∷ 0 ∷ []

abbrev pub poster : List ℕ
poster = (4 ∷ 1 ∷ []) ++ (0 ∷ 0 ∷ 0 ∷ 1 ∷ []) ++ (0x41 ∷ 7 ∷ 7 ∷ 0 ∷ []) ++ lie ++ lie ++ lie ++ lie

-- column 4 posts and is unsound: 41 to columns 1 and 2, 42 to column 3; then it reports as in the sheet of document 01
abbrev pub camps : List ℕ
camps =
    (4 ∷ 1 ∷ [])
    ++ (0 ∷ 0 ∷ 0 ∷ 1 ∷ [])
    ++ (0 ∷ 0 ∷ 0 ∷ 0 ∷ [])
    ++ (0x41 ∷ 0 ∷ 0x41 ∷ 0 ∷ 0x41 ∷ 0 ∷ 1 ∷ 0 ∷ 1 ∷ 0 ∷ [])
    ++ blanks 2
    ++ (0x41 ∷ 0 ∷ 0x41 ∷ 0 ∷ 0x41 ∷ 0 ∷ 1 ∷ 0 ∷ [])
    ++ blanks 3
    ++ (0x42 ∷ 0 ∷ [])
    ++ blanks 6
    ++ blanks 7

-- it posts nothing
abbrev pub silence : List ℕ
silence = (4 ∷ 1 ∷ []) ++ (0 ∷ 0 ∷ 0 ∷ 1 ∷ []) ++ (0 ∷ 0 ∷ 0 ∷ 0x41 ∷ []) ++ blanks 28

-- it helps column 1 to the record, and nobody else
abbrev pub favour : List ℕ
favour =
    (4 ∷ 1 ∷ [])
    ++ (0 ∷ 0 ∷ 0 ∷ 1 ∷ [])
    ++ (0 ∷ 0 ∷ 0 ∷ 0 ∷ [])
    ++ (0x41 ∷ 0 ∷ 0x41 ∷ 0 ∷ 0x41 ∷ 0 ∷ 1 ∷ 0 ∷ 0xff ∷ 0xff ∷ 0x41 ∷ 0 ∷ 0x41 ∷ 0 ∷ [])
    ++ (0x41 ∷ 0 ∷ 0x41 ∷ 0 ∷ 0x41 ∷ 0 ∷ 0xff ∷ 0xff ∷ 0xff ∷ 0xff ∷ 0x41 ∷ 0 ∷ 0xff ∷ 0xff ∷ [])
    ++ (0x42 ∷ 0 ∷ [])
    ++ blanks 6
    ++ blanks 7
