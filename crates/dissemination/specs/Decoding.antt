-- The blocks on their way through the decoder to the record, as definitions and statements.
use Rattle.std.specs.Prelude.{◌≡◌, Bool, true, false, Option, Some, None, ◌&&◌, ◌||◌, ℕ, ◌+◌, ◌*◌, ◌/◌, ◌%◌, ◌<◌, eqb, ltb}
use Rattle.std.proofs.Math.Bool.{cond}
use mathlib.Core.List.{List}
use Rattle.std.proofs.Math.ListN.{get_or}
use Rattle.lists.specs.Lists.{all, list_of}
use Rattle.sizes.specs.Sizes.{blocks}
use Rattle.messages.specs.Messages.{said}
use Rattle.decoder.specs.declared.Coefficients.{Coefficients}
use Rattle.decoder.specs.Decoder.{Decoded}
use Rattle.decoder.specs.Decoder.{Polynomial, Nothing, Refused}
use Rattle.decoder.specs.Decoder.{decoded, four}
use Rattle.dissemination.specs.Dissemination.{point_at, is_block}

-- v may stand at place p of a record of m bytes
unfoldable pub is_byte_at : ℕ → ℕ → ℕ → Bool
is_byte_at m p v = ltb v 256 && (ltb p m || eqb v 0)

unfoldable pub byte_in : ℕ → ℕ → Coefficients → ℕ → Bool
byte_in m from c i = is_byte_at m (from + i) (get_or (four c) i 0)

-- the coefficients that the decoder gave, four places for each block
unfoldable pub coefficient_of : Decoded → ℕ → ℕ
coefficient_of (Polynomial c) i = get_or (four c) i 0
coefficient_of Nothing i = 0
coefficient_of (Refused r) i = 0

unfoldable pub answer_in : ℕ → (ℕ → ℕ → ℕ) → ℕ → Decoded
answer_in n received k = decoded n (list_of (point_at (received k)) n)

unfoldable pub stored_at : ℕ → (ℕ → ℕ → ℕ) → ℕ → ℕ
stored_at n received q = coefficient_of (answer_in n received (q / 4)) (q % 4)

-- every block was decoded to bytes, and the coefficients lie in their places
pub record Stored (n m : ℕ) (received : ℕ → ℕ → ℕ) (coefficients : List ℕ) : Type 0 where
  pub each : all (is_block n m received) (blocks n m) ≡ true
  pub places : (q : ℕ) → q < 4 * blocks n m → said coefficients q ≡ stored_at n received q

-- what is found are such coefficients, or nothing where a block is not a record's
abbrev pub Decodes : ℕ → ℕ → (ℕ → ℕ → ℕ) → Option (List ℕ) → Type 0
Decodes n m received None = all (is_block n m received) (blocks n m) ≡ false
Decodes n m received (Some coefficients) = Stored n m received coefficients

-- THE RECORD

-- byte p of a record of m bytes, from coefficients that lie four places to a block of `size` bytes
unfoldable pub stored_byte : ℕ → ℕ → List ℕ → ℕ → ℕ
stored_byte size m coefficients p = cond (ltb p m) (said coefficients (4 * (p / size) + p % size) % 256) 0
