-- A refused call leaves the lent slice as it was: of each call, for every input.
use Rattle.std.specs.Prelude.{◌≡◌, List, ℕ}
use Rattle.protocols.specs.declared.Protocol.{Protocol}
use Rattle.messages.proofs.Laws.{if_refused}
use Rattle.wall_bytes.specs.Calls.{wall_answer, wall_row, block_answer, block_out}

pub wall_refused : (p : Protocol) (sheet row : List ℕ) → (wall_answer p sheet row ≡ 0 → ⊥) → wall_row p sheet row ≡ row
unfolding wall_row
wall_refused p sheet row h = if_refused _ _ row h

pub block_refused : (n : ℕ) (points out : List ℕ) → (block_answer n points out ≡ 0 → ⊥) → block_out n points out ≡ out
unfolding block_out
block_refused n points out h = if_refused _ _ out h
