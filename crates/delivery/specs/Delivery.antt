-- The definitions of what is delivered in a round of a wall: a sound column's messages from what it said, an unsound one's from its lines.
-- Document 01, "A whole wall": "An unsound column's messages come from its lines: for each receiver 1 to n, the values of all rounds in
-- order".
use Rattle.std.specs.Prelude.{cond, List, ℕ, ◌+◌, ◌-◌, ◌*◌}
use Rattle.lists.specs.Lists.{rows_of}
use Rattle.sizes.specs.Sizes.{refusal as refusal_of_sizes}
use Rattle.messages.specs.Messages.{said, refusal as refusal_of_length}
use Rattle.sheet.specs.Sheet.{columns, bytes, sound, unsound_to, line_value}
use Rattle.delivery.specs.declared.Round.{Round}

-- The mail of a round holds what all n columns said, by the sender's number: of each its n messages, by the receiver's, of `width` values.
-- Value k of what column j said to column i
unfoldable pub mailed : ℕ → ℕ → List ℕ → ℕ → ℕ → ℕ → ℕ
mailed n width mail i j k = said mail (((j - 1) * n + (i - 1)) * width + k)

-- value k of what the unsound column j says to column i in the round, which follows `offset` values of earlier rounds
unfoldable pub lied : List ℕ → Round → ℕ → ℕ → ℕ → ℕ
lied sheet round i j k = line_value round.line sheet (unsound_to sheet (j - 1)) i (round.offset + k)

-- value k of what column j sends column i
unfoldable pub sent : List ℕ → Round → List ℕ → ℕ → ℕ → ℕ → ℕ
sent sheet round mail i j k = cond (sound sheet j) (mailed (columns sheet) round.width mail i j k) (lied sheet round i j k)

-- what column i gets: one message from each, by column number
unfoldable pub inbox : List ℕ → Round → List ℕ → ℕ → List ℕ
inbox sheet round mail i = rows_of (sent sheet round mail i) round.width (columns sheet)

-- "1: n outside 4 to 31. 2: m outside 1 to 32. 3: a column number outside 1 to n. 4: a slice .. whose length is not the one required": of what
-- column i is to get in a slice of `len` values
unfoldable pub refusal : List ℕ → Round → ℕ → ℕ → ℕ
refusal sheet round i len = refusal_of_length (refusal_of_sizes (columns sheet) (bytes sheet) i) (columns sheet) round.width len
