-- WHEN A MACHINE M DOES WHAT A MACHINE N DOES: the states of the one are states of the other, and each call answers, writes and tells the same and
-- leaves the same. What M alone can be handed, as a slice of a wrong length, must leave the state as it was.
use Rattle.std.specs.Prelude.{◌≡◌, List, ℕ, T, length}
use Rattle.protocols.specs.declared.Protocol.{Protocol}
use Rattle.sizes.specs.Sizes.{refusal as refusal_of_sizes}
use Rattle.protocols.specs.Protocols.{beside}
use Rattle.machine.specs.Machine.{Call, Asks, Machine}
use Rattle.machine.specs.Lists.{idle}

-- what a column is made with in a run
pub record Makes (p : Protocol) (n m own : ℕ) (bytes : List ℕ) : Type 0 where
  pub own_fits : refusal_of_sizes n m own ≡ 0
  pub poster_fits : refusal_of_sizes n m (beside p) ≡ 0
  pub full : length bytes ≡ m

-- the calls of N are handed nothing beside their values
abbrev pub Plain : {S : Type 0} → Machine S Call → Type 0
Plain N = (call : Call) → (N.call call ≡ call) × T (N.required call)

module _ {S K S' : Type 0} (p : Protocol) (M : Machine S K) (N : Machine S' Call) where
  pub record Simulates : Type 1 where
    pub plain : Plain N
    -- the state s of M is the state s' of N
    pub Is : S → S' → Type 0
    -- made fresh
    pub same_fresh : (n m own : ℕ) (bytes : List ℕ) → Makes p n m own bytes → (M.fresh_refusal n m own bytes ≡ N.fresh_refusal n m own bytes) × Is (M.fresh n m own bytes) (N.fresh n m own bytes)
    -- a call with all that is required
    pub same_refusal : (s : S) (s' : S') (k : K) → Is s s' → T (M.required k) → M.refusal s k ≡ N.refusal s' (M.call k)
    pub same_after : (s : S) (s' : S') (k : K) → Is s s' → T (M.required k) → Is (M.after s k) (N.after s' (M.call k))
    pub same_written : (s : S) (s' : S') (k : K) → Is s s' → T (M.required k) → M.written s k ≡ N.written s' (M.call k)
    pub same_told : (s : S) (s' : S') (k : K) → Is s s' → T (M.required k) → M.call k ≡ Asks → M.refusal s k ≡ 0
        → ((m : ℕ) → M.told s k m ≡ N.told s' Asks m) × (M.told_grade s k ≡ N.told_grade s' Asks)
    -- a call for the outcome, or one that is refused, whatever it is handed
    pub idle_keeps : (s : S) (s' : S') (k : K) → Is s s' → T (idle M s k) → Is (M.after s k) s'
    pub same_grade : (s : S) (s' : S') → Is s s' → M.grade s ≡ N.grade s'
