-- The definitions of the record that a column has after the first round of a posting. Document 01, "Posting by one column".
use Rattle.std.specs.Prelude.{Bool, cond, ◌&&◌, List, ℕ, eqb, ltb, replicate}
use Rattle.lists.specs.Lists.{all, list_of, in_row}
use Rattle.field.specs.Field.{blank}
use Rattle.messages.specs.Messages.{read_byte}
use Rattle.agreement.specs.declared.Column.{Column}

-- the poster's message to column c, which has m values: "only the message of s is read"
unfoldable pub posted_by : ℕ → Column → List ℕ → ℕ → ℕ
posted_by s c inbox k = in_row c.m inbox s k blank

-- value k of it is a byte
unfoldable pub sent_byte : (ℕ → ℕ) → ℕ → Bool
sent_byte sent k = ltb (read_byte (sent k)) 256

-- byte p of a record of m bytes that was sent
unfoldable pub posted_byte : ℕ → (ℕ → ℕ) → ℕ → ℕ
posted_byte m sent p = cond (ltb p m && sent_byte sent p) (sent p) 0

-- "A receiver that finds a value outside 0 to 255 takes a record of m zeros."
unfoldable pub taken_record : ℕ → (ℕ → ℕ) → List ℕ
taken_record m sent = cond (all (sent_byte sent) m) (list_of (posted_byte m sent) 32) (replicate 32 0)

-- the record after the poster spoke; the poster keeps its own
unfoldable pub posted : ℕ → Column → List ℕ → List ℕ
posted s c inbox = cond (eqb c.own s) c.bytes (taken_record c.m (posted_by s c inbox))
