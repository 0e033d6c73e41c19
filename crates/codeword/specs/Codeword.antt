-- The definitions of a record as a codeword: a record in its 32 places, and its values at a point, one for each block. Document 01, "Rounds" 1:
-- "Column i sends to j its values at i, one per block, then its values at j."
use Rattle.std.specs.Prelude.{◌≡◌, Bool, cond, ◌&&◌, List, ◌++◌, ℕ, ◌+◌, ◌-◌, ◌*◌, ◌≤◌, eqb, leb, length, get_or, drop}
use Rattle.lists.specs.Lists.{all, Below, list_of, rows_of}
use Rattle.block.specs.Block.{block, value}
use Rattle.sizes.specs.Sizes.{degree, blocks, refusal as refusal_of_sizes}
use Rattle.messages.specs.Messages.{said, refusal, unless_refused}

-- a record of m bytes in its 32 places: "bytes past m are 0"
pub record Held (m : ℕ) (bytes : List ℕ) : Type 0 where
  pub size : length bytes ≡ 32
  pub small : Below 256 bytes
  pub past : (p : ℕ) → m ≤ p → get_or bytes p 0 ≡ 0

-- the value of block k at the point x
unfoldable pub point : ℕ → List ℕ → ℕ → ℕ → ℕ
point n bytes x k = value (block (degree n) bytes k) x

-- "its values at i, one per block"
unfoldable pub values : ℕ → ℕ → List ℕ → ℕ → List ℕ
values n m bytes x = list_of (point n bytes x) (blocks n m)

-- in block k the two records have one value at the point x
unfoldable pub meet_in : ℕ → List ℕ → List ℕ → ℕ → ℕ → Bool
meet_in n r s x k = eqb (point n r x k) (point n s x k)

-- and in every block
unfoldable pub meets : ℕ → ℕ → List ℕ → List ℕ → ℕ → Bool
meets n m r s x = all (meet_in n r s x) (blocks n m)

-- ALL POINTS AT ONCE

-- place i of a block's codeword is the block's value at the point i + 1; blank past the blocks. Rows are counted from 1, blocks from 0
unfoldable pub codeword_at : ℕ → ℕ → List ℕ → ℕ → ℕ → ℕ
codeword_at n m bytes row i = said (values n m bytes (i + 1)) (row - 1)

-- 32 codewords of 32 places, one behind the other
unfoldable pub codewords : ℕ → ℕ → List ℕ → List ℕ
codewords n m bytes = rows_of (codeword_at n m bytes) 32 32

-- the refusal of a call that writes them: 1 and 2 for the sizes (column 1 is never refused), 4 for a slice that has not 1024 places
abbrev pub codewords_refusal : ℕ → ℕ → ℕ → ℕ
codewords_refusal n m len = refusal (refusal_of_sizes n m 1) 32 32 len

-- what codeword k has at place i
unfoldable pub across : List ℕ → ℕ → ℕ → ℕ
across words i k = get_or words (32 * k + i) 0

-- the refusal of a call that writes what b codewords have for column i of n: 1 and 3 for n and i (one byte is never refused), 4 where there are not so
-- many codewords or no room
unfoldable pub across_refusal : ℕ → ℕ → ℕ → ℕ → ℕ → ℕ
across_refusal n b i words room =
    cond (eqb (refusal_of_sizes n 1 i) 0) (cond (leb (32 * b) words && leb b room) 0 4) (refusal_of_sizes n 1 i)

-- what stands in a part of the outgoing slice after it: the values at the front, unless it was refused
unfoldable pub written_across : ℕ → ℕ → List ℕ → ℕ → List ℕ → List ℕ
written_across n b words i part =
    unless_refused (across_refusal n b i (length words) (length part)) (list_of (across words (i - 1)) b ++ drop b part) part
