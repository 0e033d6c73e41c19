-- The definitions of a sheet. Document 01, "A whole wall": "A sheet is: n and m, a byte each; then two parallel arrays, n marks and n
-- records; then the lines of the unsound columns in ascending order, each value two bytes, low byte first."
use Rattle.std.specs.Prelude.{Bool, cond, not, ◌&&◌, List, ℕ, ◌+◌, ◌-◌, ◌*◌, eqb, ltb, leb, length, get_or, take, drop}
use Rattle.lists.specs.Lists.{count, all}
use Rattle.sizes.specs.Sizes.{faults, refusal as refusal_of_sizes}
use Rattle.messages.specs.Messages.{word}

-- "n and m, a byte each"
unfoldable pub columns : List ℕ → ℕ
columns sheet = get_or sheet 0 0

unfoldable pub bytes : List ℕ → ℕ
bytes sheet = get_or sheet 1 0

-- "n marks": that of column i
unfoldable pub mark : List ℕ → ℕ → ℕ
mark sheet i = get_or sheet (i + 1) 0

-- "Each column is marked 0 sound or 1 unsound."
unfoldable pub sound : List ℕ → ℕ → Bool
sound sheet i = leb i (columns sheet) && eqb (mark sheet i) 0

unfoldable pub unsound : List ℕ → ℕ → Bool
unsound sheet i = eqb (mark sheet i) 1

-- how many of the columns 1 to i are unsound
unfoldable pub unsound_to : List ℕ → ℕ → ℕ
unsound_to sheet i = count (unsound sheet) i

-- "and n records": where that of column i begins
unfoldable pub record_place : ℕ → ℕ → ℕ → ℕ
record_place n m i = 2 + n + (i - 1) * m

-- and its m bytes
unfoldable pub record_of : List ℕ → ℕ → List ℕ
record_of sheet i = take (bytes sheet) (drop (record_place (columns sheet) (bytes sheet) i) sheet)

-- where both arrays end and the lines begin
unfoldable pub arrays : ℕ → ℕ → ℕ
arrays n m = 2 + n + n * m

-- "for each receiver 1 to n, the values of all rounds in order", `line` of them: value q of what an unsound column, before which there are
-- `before` others, sends column i
unfoldable pub line_value : ℕ → List ℕ → ℕ → ℕ → ℕ → ℕ
line_value line sheet before i q =
    word sheet (arrays (columns sheet) (bytes sheet) + 2 * ((before * columns sheet + (i - 1)) * line + q))

-- the length of a sheet of n columns and m bytes with u of them unsound
unfoldable pub whole : ℕ → ℕ → ℕ → ℕ → ℕ
whole line n m u = arrays n m + 2 * (u * n * line)

-- REFUSALS. "Order 1, 2, 3, 4, 5, 6. A sheet shorter than 2 bytes gives 4 first of all. One shorter than its two arrays, or a row not of n
-- entries, gives 4 before the marks are read; the sheet's full length is tested after 6."

-- "5: a mark other than 0 or 1": the mark of column i + 1
unfoldable pub mark_fits : List ℕ → ℕ → Bool
mark_fits sheet i = ltb (mark sheet (i + 1)) 2

-- 5 where a mark does not fit, then 6 where not few are unsound, then 4 where the sheet is not whole
unfoldable pub in_order : Bool → Bool → Bool → ℕ
in_order fit few full = cond fit (cond few (cond full 0 4) 6) 5

-- of the marks and the full length
unfoldable pub refusal_of_marks : ℕ → List ℕ → ℕ
refusal_of_marks line sheet =
    in_order (all (mark_fits sheet) (columns sheet)) (leb (unsound_to sheet (columns sheet)) (faults (columns sheet)))
    (eqb (length sheet) (whole line (columns sheet) (bytes sheet) (unsound_to sheet (columns sheet))))

-- of a sheet whose lines have `line` values for each receiver, with a column number beside it, and of a row of `rows` entries; 0 for none
unfoldable pub refusal : ℕ → ℕ → List ℕ → ℕ → ℕ
refusal number line sheet rows =
    cond (ltb (length sheet) 2) 4
    (cond (not (eqb (refusal_of_sizes (columns sheet) (bytes sheet) number) 0)) (refusal_of_sizes (columns sheet) (bytes sheet) number)
    (cond (ltb (length sheet) (arrays (columns sheet) (bytes sheet))) 4
    (cond (not (eqb rows (columns sheet))) 4 (refusal_of_marks line sheet))))
