-- The definitions of messages, in document 01's order: what a value says, how messages lie, what is heard, and what is refused.
use Rattle.std.specs.Prelude.{cond, List, ◌++◌, ℕ, ◌+◌, ◌-◌, ◌*◌, eqb, ltb, leb, length, drop, get_or}
use Rattle.lists.specs.Lists.{count, list_of, rows_of, in_row}
use Rattle.field.specs.Field.{blank}
use Rattle.sizes.specs.Sizes.{refusal as refusal_of_sizes}

-- WHAT A VALUE SAYS. "Legal are points in exchange and dissemination, 1 in the reports, 0 and 1 in the king rounds, 0 to 255 in a poster's
-- record; any other value counts as blank."

-- "A point is 0 to 256."
unfoldable pub read_point : ℕ → ℕ
read_point v = cond (ltb v 257) v blank

unfoldable pub read_report : ℕ → ℕ
read_report v = cond (eqb v 1) v blank

unfoldable pub read_bit : ℕ → ℕ
read_bit v = cond (ltb v 2) v blank

unfoldable pub read_byte : ℕ → ℕ
read_byte v = cond (ltb v 256) v blank

-- HOW MESSAGES LIE. "Outgoing and incoming messages lie by column number, each as many values long as the round has."

-- value k of a message; blank past its end
unfoldable pub said : List ℕ → ℕ → ℕ
said message k = get_or message k blank

-- column j's of values that lie by column number
unfoldable pub from : List ℕ → ℕ → ℕ
from values j = get_or values (j - 1) blank

-- a value that lies in bytes, from byte p on: "each value two bytes, low byte first"; a byte past the end is 0
unfoldable pub word : List ℕ → ℕ → ℕ
word bytes p = get_or bytes p 0 + 256 * get_or bytes (p + 1) 0

-- one message of w values to each of n columns
unfoldable pub to_all : ℕ → ℕ → List ℕ → List ℕ
to_all n w message = rows_of (λ j. said message) w n

-- a message in w places, blank past its end
unfoldable pub laid : ℕ → List ℕ → List ℕ
laid w message = list_of (said message) w

-- what stands in a part of the outgoing slice after a message of w values was written to its front; one that has no room stays as it was
unfoldable pub written : ℕ → List ℕ → List ℕ → List ℕ
written w message part = cond (leb w (length part)) (laid w message ++ drop w part) part

-- bytes at the front of a part, in the same way
unfoldable pub put : List ℕ → List ℕ → List ℕ
put bytes part = cond (leb (length bytes) (length part)) (bytes ++ drop (length bytes) part) part

-- "4: a slice .. whose length is not the one required": n messages of w values. A refusal `why` of what comes before stands; 0 for none
unfoldable pub refusal : ℕ → ℕ → ℕ → ℕ → ℕ
refusal why n w len = cond (eqb why 0) (cond (eqb len (n * w)) 0 4) why

-- "A refusal gives its number ..; no lent slice is written."
unfoldable pub unless_refused : ℕ → List ℕ → List ℕ → List ℕ
unless_refused why done before = cond (eqb why 0) done before

-- the refusal of a message to all: 1 for n outside 4 to 31 (one byte and column 1 are never refused), 4 for a slice of another length
abbrev pub to_all_refusal : ℕ → ℕ → ℕ → ℕ
to_all_refusal n w len = refusal (refusal_of_sizes n 1 1) n w len

-- WHAT A COLUMN HEARS. "For its own place it uses what it would send itself and ignores the slice there."

-- value k from column j, where messages have w values, and `mine` is what the column `own` would send itself
unfoldable pub heard : ℕ → List ℕ → ℕ → List ℕ → ℕ → ℕ → ℕ
heard own mine w inbox j k = cond (eqb j own) (said mine k) (in_row w inbox j k blank)

-- value k from each of n columns, by column number; blank past n
unfoldable pub heard_from : ℕ → ℕ → List ℕ → ℕ → List ℕ → ℕ → ℕ → ℕ
heard_from n own mine w inbox k i = cond (ltb i n) (heard own mine w inbox (i + 1) k) blank

unfoldable pub heard_of_all : ℕ → ℕ → List ℕ → ℕ → List ℕ → ℕ → List ℕ
heard_of_all n own mine w inbox k = list_of (heard_from n own mine w inbox k) 31

-- of n columns, how many sent v, where column j sent `sent j`
unfoldable pub times : (ℕ → ℕ) → ℕ → ℕ → ℕ
times sent v n = count (λ j. eqb (sent j) v) n
