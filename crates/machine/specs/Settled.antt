-- AFTER THE FIRST SOUND KING, as a statement of every run of an agreement (`Run` of Lists), on whatever machine. Document 02, request i.
use Rattle.std.specs.Prelude.{◌≡◌, Bool, List, ℕ, suc, ◌+◌, ◌*◌, ◌≤◌}
use Rattle.sizes.specs.Sizes.{faults}
use Rattle.messages.specs.Wall.{Sound}
use Rattle.machine.specs.Machine.{Machine}
use Rattle.machine.specs.Lists.{Item, Behind}

-- `vote` is the vote of a state
module _ {S K : Type 0} (M : Machine S K) (vote : S → ℕ) where
  pub record Settled (n m : ℕ) (H : ℕ → Bool) (held : ℕ → List ℕ) (lists : ℕ → List (Item K)) : Type 0 where
    -- "let k be the lowest-numbered sound column"
    pub king : ℕ
    pub sound : Sound n H king
    pub lowest : (i : ℕ) → Sound n H i → king ≤ i
    -- "k is at most t + 1"
    pub in_time : king ≤ suc (faults n)
    -- "all sound columns have equal votes after phase k", which is after they listened in round 3k + 3, two calls a round, and "none of them changes its
    -- vote in a later phase": wherever a sound column's list is cut behind that call, its vote is this one
    pub bit : ℕ
    pub votes : Behind M (2 * (3 * king + 3)) n m H held lists (λ i s. vote s ≡ bit)
