-- The definition. A pair of polynomials (e, q) fits the points y where q = y e. It is held by 64 numbers: the values of e at the places
-- 1 to 32, then those of q - y e, its discrepancies. Two pairs are kept, each with a weight that bounds its degrees, and place after
-- place both are made to fit: the pair that leads, the lighter of those that do not fit yet, takes the other's discrepancy away, and
-- is itself multiplied by (x - place). Blank points are passed over.
use Rattle.std.specs.Prelude.{Bool, cond, not, ◌&&◌, ◌||◌, List, ℕ, zero, suc, ◌+◌, ◌-◌, ◌%◌, eqb, ltb, leb, get_or}
use Rattle.lists.specs.Lists.{list_of}
use Rattle.field.specs.Field.{add, subtract, multiply}
use Rattle.messages.specs.Messages.{said as point_at}

-- the discrepancy of a pair at index i
abbrev pub discrepancy : List ℕ → ℕ → ℕ
discrepancy pair i = get_or pair (32 + i) 0

pub record Run : Type 0 where
  pub first : List ℕ
  pub second : List ℕ
  pub first_weight : ℕ
  pub second_weight : ℕ

-- the first pair at the start: e = 0, q = 1
unfoldable pub first_at : ℕ → ℕ
first_at i = cond (ltb i 32) 0 1

-- the second: e = 1, q = 0. (What a blank leaves here is never read)
unfoldable pub second_at : List ℕ → ℕ → ℕ
second_at points i = cond (ltb i 32) 1 (subtract 0 (point_at points (i - 32)))

unfoldable pub start : ℕ → List ℕ → Run
start weight points = record { first = list_of first_at 64; second = list_of (second_at points) 64; first_weight = 0; second_weight = weight }

-- a times the other pair plus b times the leading one
unfoldable pub mixed_at : ℕ → ℕ → List ℕ → List ℕ → ℕ → ℕ
mixed_at a b other lead i = add (multiply a (get_or other i 0)) (multiply b (get_or lead i 0))

-- the other pair, its discrepancy at index j taken away
unfoldable pub cleared : ℕ → List ℕ → List ℕ → List ℕ
cleared j other lead = list_of (mixed_at (discrepancy lead j) (subtract 0 (discrepancy other j)) other lead) 64

-- (x - r) times the pair
unfoldable pub raised_at : ℕ → List ℕ → ℕ → ℕ
raised_at r lead i = multiply (subtract (i % 32 + 1) r) (get_or lead i 0)

unfoldable pub raised : ℕ → List ℕ → List ℕ
raised r lead = list_of (raised_at r lead) 64

-- a pair with the discrepancy x and the weight v leads before one with y and w
abbrev pub leads : ℕ → ℕ → ℕ → ℕ → Bool
leads x y v w = not (eqb x 0) && (eqb y 0 || leb v w)

-- both pairs are made to fit the point at index j
unfoldable pub first_leads : Run → ℕ → Run
first_leads s j =
    record {
      first = raised (j + 1) s.first;
      second = cleared j s.second s.first;
      first_weight = s.first_weight + 1;
      second_weight = s.second_weight;
    }

unfoldable pub second_leads : Run → ℕ → Run
second_leads s j =
    record {
      first = cleared j s.first s.second;
      second = raised (j + 1) s.second;
      first_weight = s.first_weight;
      second_weight = s.second_weight + 1;
    }

-- the turn of the point y at index j
unfoldable pub turn : Run → ℕ → ℕ → Run
turn s y j =
    cond (leb 257 y) s
    (cond (leads (discrepancy s.first j) (discrepancy s.second j) s.first_weight s.second_weight) (first_leads s j)
    (cond (eqb (discrepancy s.second j) 0) s (second_leads s j)))

-- after the first j places
unfoldable pub run : ℕ → List ℕ → ℕ → Run
run weight points zero = start weight points
run weight points (suc j) = turn (run weight points j) (point_at points j) j

abbrev pub lighter : Run → List ℕ
lighter s = cond (leb s.first_weight s.second_weight) s.first s.second

-- THE DEFINITION: the lighter pair after all places
unfoldable pub located : ℕ → List ℕ → List ℕ
located weight points = lighter (run weight points 32)
