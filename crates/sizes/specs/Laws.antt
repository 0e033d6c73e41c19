-- What an accepted wall has, as statements: `InRange`, `Sized`, `Accepted`. That it is so, and the laws of the sizes, stand in proofs/.
use Rattle.std.specs.Prelude.{ℕ, ◌+◌, ◌*◌, ◌≤◌, ◌<◌}
use Rattle.sizes.specs.Sizes.{faults, degree, blocks}

-- THE SIZES OF A WALL

-- n columns and records of m bytes
pub record InRange (n m : ℕ) : Type 0 where
  pub columns_low : 4 ≤ n
  pub columns_high : n ≤ 31
  pub bytes_low : 1 ≤ m
  pub bytes_high : m ≤ 32

-- t, d and B of a wall
pub record Sized (n m : ℕ) : Type 0 where
  -- t is the greatest number of which three are fewer than n
  pub faults_few : 3 * faults n < n
  pub faults_most : n ≤ 3 * faults n + 3
  pub faults_low : 1 ≤ faults n
  pub faults_high : faults n ≤ 10
  -- d is the greatest number of which three are at most t
  pub degree_few : 3 * degree n ≤ faults n
  pub degree_most : faults n ≤ 3 * degree n + 2
  pub degree_high : degree n ≤ 3
  -- two polynomials that each meet n - t points share more than d
  pub room : degree n + 2 * faults n < n
  -- B is the least number of blocks that hold m bytes
  pub blocks_enough : m ≤ blocks n m * (degree n + 1)
  pub blocks_least : blocks n m * (degree n + 1) < m + degree n + 1
  pub blocks_low : 1 ≤ blocks n m
  pub blocks_high : blocks n m ≤ m

-- REFUSALS

-- a wall and a column number that nothing refuses
pub record Accepted (n m number : ℕ) : Type 0 where
  pub range : InRange n m
  pub number_low : 1 ≤ number
  pub number_high : number ≤ n
