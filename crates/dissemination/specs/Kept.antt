-- What the code counts of a received point, as definitions.
use Rattle.std.specs.Prelude.{◌&&◌, ℕ, ◌+◌}
use Rattle.std.proofs.Math.Bool.{cond}
use Rattle.std.proofs.Math.Dec.{ltb}
use Rattle.field.specs.Field.{blank}
use Rattle.messages.specs.Messages.{times}

-- LOOKING FOR IT AMONG WHAT WAS RECEIVED

-- how often v was received, where it is a point below the best so far; else 0
unfoldable pub weight : ℕ → (ℕ → ℕ) → ℕ → ℕ → ℕ
weight n received best v = cond (ltb v best && ltb v 257) (times received v n) 0

-- IN 32 PLACES, of which all are looked at, however many columns there are

-- what was received from column i + 1 of n; blank past n
unfoldable pub placed : ℕ → (ℕ → ℕ) → ℕ → ℕ
placed n received i = cond (ltb i n) (received (i + 1)) blank
