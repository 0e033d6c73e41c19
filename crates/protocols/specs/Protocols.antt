-- The definitions of the protocols: what a round of each kind is, and the rounds of each protocol by their kinds. Rounds, values and lines are
-- counted from these.
use Rattle.std.specs.Prelude.{Bool, true, false, cond, List, [], ◌∷◌, ◌++◌, ℕ, zero, suc, ◌+◌, ◌-◌, ◌*◌, eqb, ltb, length, get_or}
use Rattle.lists.specs.Lists.{sum}
use Rattle.sizes.specs.Sizes.{faults, blocks, outside}
use Rattle.protocols.specs.declared.Protocol.{Protocol}
use Rattle.protocols.specs.declared.Protocol.TheVariants.{Agreement, Posting}
use Rattle.protocols.specs.declared.Kind.{Kind}
use Rattle.protocols.specs.declared.Kind.TheVariants.{Exchange, FirstReport, SecondReport, Votes, Proposals, King, Points, KeptPoints, Post}

-- THE KINDS OF ROUNDS

-- the values of a message
unfoldable pub width : ℕ → ℕ → Kind → ℕ
width n m Exchange = 2 * blocks n m
width n m FirstReport = 1
width n m SecondReport = 1
width n m Votes = 1
width n m Proposals = 1
width n m (King king) = 1
width n m Points = blocks n m
width n m KeptPoints = blocks n m
width n m (Post s) = m

-- "Legal are points in exchange and dissemination, 1 in the reports, 0 and 1 in the king rounds, 0 to 255 in a poster's record; any other
-- value counts as blank."
unfoldable pub legal : Kind → ℕ → Bool
legal Exchange v = ltb v 257
legal FirstReport v = eqb v 1
legal SecondReport v = eqb v 1
legal Votes v = ltb v 2
legal Proposals v = ltb v 2
legal (King king) v = ltb v 2
legal Points v = ltb v 257
legal KeptPoints v = ltb v 257
legal (Post s) v = ltb v 256

-- the column whose message alone is read: the king, the poster; 0 where every column's is
unfoldable pub alone : Kind → ℕ
alone Exchange = 0
alone FirstReport = 0
alone SecondReport = 0
alone Votes = 0
alone Proposals = 0
alone (King king) = king
alone Points = 0
alone KeptPoints = 0
alone (Post s) = s

-- THE ROUNDS OF EACH PROTOCOL

-- "phases of three rounds, king of phase k is column k"
unfoldable pub phase : ℕ → List Kind
phase k = Votes ∷ Proposals ∷ King k ∷ []

-- so many phases, from phase k on
unfoldable pub phases_from : ℕ → ℕ → List Kind
phases_from k zero = []
phases_from k (suc left) = phase k ++ phases_from (suc k) left

-- "1. Exchange", "2. First report", "3. Second report", "4. Rounds 4 to 3t + 6 .. the king rule", with t + 1 phases, "5. Round 3t + 7",
-- "6. Round 3t + 8"; of a posting "column s sends its m bytes as values to all ..; then rounds 1 to 3, then the two of dissemination"
unfoldable pub kinds : Protocol → ℕ → List Kind
kinds Agreement n = Exchange ∷ FirstReport ∷ SecondReport ∷ (phases_from 1 (faults n + 1) ++ Points ∷ KeptPoints ∷ [])
kinds (Posting s) n = Post s ∷ Exchange ∷ FirstReport ∷ SecondReport ∷ Points ∷ KeptPoints ∷ []

-- how many they are
unfoldable pub rounds_in : Protocol → ℕ → ℕ
rounds_in p n = length (kinds p n)

-- the kind of a round, counted from 1
unfoldable pub kind_in : Protocol → ℕ → ℕ → Kind
kind_in p n round = get_or (kinds p n) (round - 1) KeptPoints

-- the values of a message in it; a run has no other rounds
unfoldable pub values_in : Protocol → ℕ → ℕ → ℕ → ℕ
values_in p n m round = cond (outside 1 (rounds_in p n) round) 0 (width n m (kind_in p n round))

-- "for each receiver 1 to n, the values of all rounds in order"
unfoldable pub line_in : Protocol → ℕ → ℕ → ℕ
line_in p n m = sum (values_in p n m) (rounds_in p n)

-- the column number that stands beside the sizes: the poster's; in an agreement there is none, and column 1 is never refused
unfoldable pub beside : Protocol → ℕ
beside Agreement = 1
beside (Posting s) = s

-- whether one column posts its record to all others
unfoldable pub posts : Protocol → Bool
posts Agreement = false
posts (Posting s) = true

-- A PROTOCOL BY ITS NUMBER, as the calls on bytes tell it, with the poster's number where one posts

abbrev pub protocol_count : ℕ
protocol_count = 2

unfoldable pub number_of : Protocol → ℕ
number_of Agreement = 0
number_of (Posting s) = 1

unfoldable pub protocol_of : ℕ → ℕ → Protocol
protocol_of runs poster = cond (eqb runs 0) Agreement (Posting poster)
