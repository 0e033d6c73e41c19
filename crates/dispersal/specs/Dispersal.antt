-- The definitions, in document 01's order. `A` is the set of columns that the column agrees with, `R` that of those whose first report
-- came; `received j` is what came from column j.
use Rattle.std.specs.Prelude.{Bool, false, cond, ◌&&◌, List, ◌++◌, ℕ, ◌+◌, ◌-◌, ◌*◌, eqb, ltb, leb, get_or}
use Rattle.lists.specs.Lists.{count, all, list_of, rows_of}
use Rattle.field.specs.Field.{blank}
use Rattle.sizes.specs.Sizes.{faults, blocks, refusal as refusal_of_sizes}
use Rattle.messages.specs.Messages.{read_point, read_report, said, refusal, heard, times}
use Rattle.codeword.specs.Codeword.{point, values}

-- ROUND 1

-- "Column i sends to j its values at i, one per block, then its values at j."
unfoldable pub exchange : ℕ → ℕ → ℕ → List ℕ → ℕ → List ℕ
exchange n m own bytes j = values n m bytes own ++ values n m bytes j

-- to all columns
unfoldable pub exchanges : ℕ → ℕ → ℕ → List ℕ → List ℕ
exchanges n m own bytes = rows_of (λ j. said (exchange n m own bytes j)) (2 * blocks n m) n

-- in block k, "j's first value equals i's block at j and j's second equals i's block at i"
unfoldable pub agrees_in : ℕ → ℕ → ℕ → List ℕ → ℕ → (ℕ → ℕ) → ℕ → Bool
agrees_in n m own bytes j received k =
    eqb (read_point (received k)) (point n bytes j k) && eqb (read_point (received (blocks n m + k))) (point n bytes own k)

-- "Column i agrees with j when, in every block, .."
unfoldable pub agrees_with : ℕ → ℕ → ℕ → List ℕ → ℕ → (ℕ → ℕ) → Bool
agrees_with n m own bytes j received = all (agrees_in n m own bytes j received) (blocks n m)

-- the flag of column i + 1 after the exchange, and all 31
unfoldable pub agreement_at : ℕ → ℕ → ℕ → List ℕ → List ℕ → ℕ → Bool
agreement_at n m own bytes inbox i =
    ltb i n && agrees_with n m own bytes (i + 1) (heard own (exchange n m own bytes own) (2 * blocks n m) inbox (i + 1))

unfoldable pub agreements : ℕ → ℕ → ℕ → List ℕ → List ℕ → List Bool
agreements n m own bytes inbox = list_of (agreement_at n m own bytes inbox) 31

-- column j is in the set of agreements
unfoldable pub agrees : List Bool → ℕ → Bool
agrees flags j = get_or flags (j - 1) false

-- ROUND 2

-- "1 to all if i agrees with at least n - t columns, itself counted; else blank"
unfoldable pub first_quorum : ℕ → (ℕ → Bool) → Bool
first_quorum n A = leb (n - faults n) (count A n)

unfoldable pub first_report : ℕ → (ℕ → Bool) → ℕ
first_report n A = cond (first_quorum n A) 1 blank

-- "Reports are one flag for each column whose first report came, agreed with or not."
unfoldable pub report_at : ℕ → (ℕ → ℕ) → ℕ → Bool
report_at n received i = ltb i n && eqb (read_report (received (i + 1))) 1

unfoldable pub reports : ℕ → (ℕ → ℕ) → List Bool
reports n received = list_of (report_at n received) 31

-- column j is in the set of reports
unfoldable pub reported : List Bool → ℕ → Bool
reported flags j = get_or flags (j - 1) false

-- ROUND 3

unfoldable pub both : (ℕ → Bool) → (ℕ → Bool) → ℕ → Bool
both A R j = A j && R j

-- "1 to all if at least n - t columns that i agrees with sent a first report, and i sent one too; else blank"
unfoldable pub second_quorum : ℕ → ℕ → (ℕ → Bool) → (ℕ → Bool) → Bool
second_quorum n own A R = leb (n - faults n) (count (both A R) n) && R own

unfoldable pub second_report : ℕ → ℕ → (ℕ → Bool) → (ℕ → Bool) → ℕ
second_report n own A R = cond (second_quorum n own A R) 1 blank

-- the report that column j sent, or blank
unfoldable pub read_reports : (ℕ → ℕ) → ℕ → ℕ
read_reports received j = read_report (received j)

-- "Grade 2: i sent it and received at least 2t + 1 of them from any columns. Grade 1: sent, fewer received. Grade 0: not sent."
unfoldable pub grade : ℕ → ℕ → (ℕ → Bool) → (ℕ → Bool) → (ℕ → ℕ) → ℕ
grade n own A R received = cond (second_quorum n own A R) (cond (leb (2 * faults n + 1) (times (read_reports received) 1 n)) 2 1) 0

-- THE CALLS ON SLICES, refused inputs included: 1, 2, 3 for the sizes and the number, 4 for a slice that does not hold 2B values a column

abbrev pub exchange_refusal : ℕ → ℕ → ℕ → ℕ → ℕ
exchange_refusal n m own len = refusal (refusal_of_sizes n m own) n (2 * blocks n m) len
