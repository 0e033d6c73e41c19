-- The definitions, in document 01's order. `received j` is the point of one block that came from column j, or blank; `speaks` is whether
-- the column sends anything in the round (document 01 says when, by its vote and grade).
use Rattle.std.specs.Prelude.{Bool, true, false, cond, ◌&&◌, ◌||◌, List, [], ℕ, zero, suc, ◌+◌, ◌*◌, ◌/◌, ◌%◌, eqb, ltb, leb, length, get_or, replicate}
use Rattle.std.specs.Prelude as P
use Rattle.std.proofs.Math.Option.{Option, none, some}
use Rattle.lists.specs.Lists.{all, list_of, rows_of}
use Rattle.field.specs.Field.{blank}
use Rattle.sizes.specs.Sizes.{faults, degree, blocks, refusal as refusal_of_sizes}
use Rattle.messages.specs.Messages.{read_point, said, refusal, heard, times}
use Rattle.codeword.specs.Codeword.{values}
use Rattle.decoder.specs.Decoder.{decoded, polynomial_of}

-- values, or none of them: blanks
unfoldable pub spoken : Bool → List ℕ → List ℕ
spoken speaks message = cond speaks message []

-- the point of block k that the column `own` hears from column j, where messages have w values
unfoldable pub points_in : ℕ → List ℕ → ℕ → List ℕ → ℕ → ℕ → ℕ
points_in own mine w inbox k j = read_point (heard own mine w inbox j k)

-- THE FIRST ROUND

-- "With vote 1 and grade 1 or 2, column i sends j its values at j; else blanks."
unfoldable pub points : ℕ → ℕ → Bool → List ℕ → ℕ → List ℕ
points n m speaks bytes j = spoken speaks (values n m bytes j)

unfoldable pub points_to_all : ℕ → ℕ → Bool → List ℕ → List ℕ
points_to_all n m speaks bytes = rows_of (λ j. said (points n m speaks bytes j)) (blocks n m) n

-- the least of `count` numbers from u on that passes the test; blank if none does
unfoldable pub least : (ℕ → Bool) → ℕ → ℕ → ℕ
least P zero u = blank
least P (suc count) u = let rest = least P count (suc u) in cond (P u) u rest

-- v was received at least t + 1 times
unfoldable pub often : ℕ → (ℕ → ℕ) → ℕ → Bool
often n received v = leb (faults n + 1) (times received v n)

-- "Per block, j keeps the point received at least t + 1 times: the smallest if several, blank if none."
unfoldable pub kept_point : ℕ → (ℕ → ℕ) → ℕ
kept_point n received = least (often n received) 257 0

-- the kept point of block k, in 32 places; blank past the blocks
unfoldable pub kept_at : ℕ → ℕ → ℕ → Bool → List ℕ → List ℕ → ℕ → ℕ
kept_at n m own speaks bytes inbox k =
    cond (ltb k (blocks n m)) (kept_point n (points_in own (points n m speaks bytes own) (blocks n m) inbox k)) blank

unfoldable pub kept_points : ℕ → ℕ → ℕ → Bool → List ℕ → List ℕ → List ℕ
kept_points n m own speaks bytes inbox = list_of (kept_at n m own speaks bytes inbox) 32

-- THE SECOND ROUND. "With vote 1, the kept points to all; else blanks.": `spoken speaks kept`

-- "Per block, decode the n points"
unfoldable pub point_at : (ℕ → ℕ) → ℕ → ℕ
point_at received i = received (i + 1)

unfoldable pub block_of : ℕ → (ℕ → ℕ) → Option (List ℕ)
block_of n received = polynomial_of n (decoded n (list_of (point_at received) n))

unfoldable pub there : Option (List ℕ) → Bool
there none = false
there (some f) = true

unfoldable pub coefficient : Option (List ℕ) → ℕ → ℕ
coefficient none c = 0
coefficient (some f) c = get_or f c 0

-- coefficient c of block k is a byte, and 0 where it fills the last block
unfoldable pub is_byte : ℕ → ℕ → Option (List ℕ) → ℕ → ℕ → Bool
is_byte n m block k c = ltb (coefficient block c) 256 && (ltb (k * (degree n + 1) + c) m || eqb (coefficient block c) 0)

-- block k is one of a record's. "none .. if a block has none, if a coefficient is 256 or a fill byte is not 0"
unfoldable pub is_block : ℕ → ℕ → (ℕ → ℕ → ℕ) → ℕ → Bool
is_block n m received k = there (block_of n (received k)) && all (is_byte n m (block_of n (received k)) k) (degree n + 1)

-- byte p of the record: of block p / (d + 1) the coefficient p % (d + 1)
unfoldable pub byte_at : ℕ → ℕ → (ℕ → ℕ → ℕ) → ℕ → ℕ
byte_at n m received p = cond (ltb p m) (coefficient (block_of n (received (p / (degree n + 1)))) (p % (degree n + 1))) 0

-- "else the record", in 32 places
unfoldable pub record_of : ℕ → ℕ → (ℕ → ℕ → ℕ) → Option (List ℕ)
record_of n m received = cond (all (is_block n m received) (blocks n m)) (some (list_of (byte_at n m received) 32)) none

-- read off what a call returns
abbrev pub record_in : P.Option (List ℕ) → Option (List ℕ)
record_in P.None = none
record_in (P.Some bytes) = some bytes

-- THE CALLS ON SLICES, refused inputs included: 1, 2, 3 for the sizes and the number, 4 for a slice that does not hold B values a column

abbrev pub round_refusal : ℕ → ℕ → ℕ → ℕ → ℕ
round_refusal n m own len = refusal (refusal_of_sizes n m own) n (blocks n m) len
