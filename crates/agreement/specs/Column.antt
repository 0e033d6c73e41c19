-- The definitions of a column's state: how it is made, and the ranges of its parts. Document 01, "Rounds", its last two paragraphs, "Posting
-- by one column" and "Refusals from the state".
use Rattle.std.specs.Prelude.{Bool, true, false, cond, not, ◌&&◌, ◌||◌, List, [], ℕ, eqb, ltb, get_or, replicate}
use Rattle.lists.specs.Lists.{bit, all}
use Rattle.field.specs.Field.{blank}
use Rattle.block.specs.Block.{part}
use Rattle.protocols.specs.declared.Protocol.{Protocol}
use Rattle.sizes.specs.Sizes.{blocks, outside, refusal}
use Rattle.protocols.specs.Protocols.{rounds_in, beside, posts}
use Rattle.messages.specs.Messages.{read_point, read_bit}
use Rattle.agreement.specs.declared.Stage.{Stage}
use Rattle.agreement.specs.declared.Stage.TheVariants.{Speak, Listen, Ended}
use Rattle.agreement.specs.declared.Column.{Column}

-- the vote of a fresh column: of a posting "Fresh, it has vote 1"
unfoldable pub fresh_vote : Protocol → ℕ
fresh_vote p = bit (posts p)

-- and its record, where it is handed these bytes: of a posting "unless it is s, a record of zeros"
unfoldable pub brought : Protocol → ℕ → List ℕ → List ℕ
brought p own bytes = cond (posts p) (cond (eqb own (beside p)) bytes []) bytes

-- "A fresh column is to speak in round 1, with grade and vote 0, flags false, proposal and kept points blank."; "record (bytes past m
-- are 0)"
unfoldable pub fresh_column : Protocol → ℕ → ℕ → ℕ → List ℕ → Column
fresh_column p n m own bytes =
    record {
      protocol = p;
      n = n;
      m = m;
      own = own;
      bytes = part (brought p own bytes) 0 32;
      proposal = blank;
      stage = Speak 1;
      agreements = replicate 31 false;
      reports = replicate 31 false;
      grade = 0;
      vote = fresh_vote p;
      firm = false;
      kept = replicate 32 blank;
    }

-- THE RANGES. "11: n, m, own or poster's number, round, grade, vote, proposal, a kept point or a byte past m outside the ranges above; a flag
-- past n set, or a kept point past B not blank." A value is in its range where it reads as itself: it is legal or blank

-- in a run of `last` rounds
unfoldable pub stage_fits : ℕ → Stage → Bool
stage_fits last (Speak round) = not (outside 1 last round)
stage_fits last (Listen round) = not (outside 1 last round)
stage_fits last (Ended outcome) = true

-- byte p of the record
unfoldable pub byte_fits : ℕ → List ℕ → ℕ → Bool
byte_fits m bytes p = ltb p m || eqb (get_or bytes p 0) 0

-- the flag of column i + 1
unfoldable pub flag_fits : ℕ → List Bool → ℕ → Bool
flag_fits n flags i = ltb i n || not (get_or flags i false)

-- the kept point of block k, of b blocks
unfoldable pub point_fits : ℕ → List ℕ → ℕ → Bool
point_fits b kept k = eqb (read_point (get_or kept k blank)) (get_or kept k blank) && (ltb k b || eqb (get_or kept k blank) blank)

-- own and poster's number, each with the sizes
unfoldable pub names_fit : Column → Bool
names_fit c = eqb (refusal c.n c.m c.own) 0 && eqb (refusal c.n c.m (beside c.protocol)) 0

unfoldable pub numbers_fit : Column → Bool
numbers_fit c =
    names_fit c && stage_fits (rounds_in c.protocol c.n) c.stage && ltb c.grade 3 && ltb c.vote 2 && eqb (read_bit c.proposal) c.proposal

unfoldable pub arrays_fit : Column → Bool
arrays_fit c =
    all (byte_fits c.m c.bytes) 32 && all (flag_fits c.n c.agreements) 31 && all (flag_fits c.n c.reports) 31
    && all (point_fits (blocks c.n c.m) c.kept) 32

unfoldable pub fits : Column → Bool
fits c = numbers_fit c && arrays_fit c
