-- Why each answer that the code gives is the definition's.
use Rattle.std.specs.Prelude.{◌≡◌, ℕ, ◌+◌, length}
use mathlib.Core.List.{List, map}
use Rattle.sizes.specs.Sizes.{faults, degree}
use Rattle.messages.specs.Messages.{from as at}
use Rattle.decoder.specs.Decoder.{through, coefficients}
use Rattle.decoder.specs.Exactly.{Accepts}
use Rattle.decoder.specs.Places.{usable, Chain}
use Rattle.decoder.specs.declared.Coefficients.{Coefficients}

-- c is the polynomial through the points at k places
pub record Through (points xs : List ℕ) (k : ℕ) (c : Coefficients) : Type 0 where
  pub size : length xs ≡ k
  pub is : c ≡ coefficients (through xs (map (at points) xs))

-- and the places are the first k usable ones
pub record Candidate (points es : List ℕ) (k : ℕ) (c : Coefficients) : Type 0 where
  pub xs : List ℕ
  pub chain : Chain (usable points es) 1 xs
  pub goes : Through points xs k c

-- n points, and t and k of their wall
pub record Given (n t k : ℕ) (points : List ℕ) : Type 0 where
  pub accepts : Accepts n points
  pub faults_is : t ≡ faults n
  pub size_is : k ≡ degree n + 1
