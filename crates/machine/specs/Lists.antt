-- Lists of calls, and the premises of a run of all columns together (`Run`). Document 01, "The runs of the third demand", sentence by
-- sentence; the lists of a posting are of the same form.
use Rattle.std.specs.Prelude.{◌≡◌, Bool, true, false, not, ◌&&◌, ◌||◌, List, [], ◌∷◌, ◌++◌, ℕ, zero, suc, ◌-◌, ◌*◌, ◌≤◌, T, eqb, length, get_or}
use Rattle.std.proofs.Math.Option.{Option}
use Rattle.lists.specs.Lists.{Below}
use Rattle.protocols.specs.declared.Protocol.{Protocol}
use Rattle.protocols.specs.Protocols.{rounds_in, values_in, beside}
use Rattle.messages.specs.Wall.{Wall, Sound, Delivered}
use Rattle.machine.specs.Machine.{Call, Speaks, Listens, Asks, Machine}

-- LISTS OF CALLS. "Each has its own list of calls to speak, to listen and for the outcome."

-- a call of a list: one of those that lead through the rounds, or one more
pub data Item (K : Type 0) : Type 0 where
  leading extra : K → Item K

-- "calls to speak and as many to listen come in turn, the first to speak": of `left` rounds from `round` on, with the slices of each round
unfoldable pub turns : (ℕ → List ℕ) → (ℕ → List ℕ) → ℕ → ℕ → List Call
turns out inbox round zero = []
turns out inbox round (suc left) = Speaks (out round) ∷ Listens (inbox round) ∷ turns out inbox (suc round) left

unfoldable pub is_asking : Call → Bool
is_asking (Speaks out) = false
is_asking (Listens inbox) = false
is_asking Asks = true

-- a slice that a call to speak wrote, before the others
unfoldable pub spoken : Call → List ℕ → List (List ℕ) → List (List ℕ)
spoken (Speaks out) slice slices = slice ∷ slices
spoken (Listens inbox) slice slices = slices
spoken Asks slice slices = slices

-- the leading calls of a list, where `call` says what each is
unfoldable pub leading_calls : {K : Type 0} → (K → Call) → List (Item K) → List Call
leading_calls call [] = []
leading_calls call (leading k ∷ items) = call k ∷ leading_calls call items
leading_calls call (extra k ∷ items) = leading_calls call items

-- a list of leading calls alone
unfoldable pub all_leading : {K : Type 0} → List K → List (Item K)
all_leading [] = []
all_leading (k ∷ calls) = leading k ∷ all_leading calls

-- those of column i, of all the rounds
abbrev pub in_turn : Protocol → ℕ → (ℕ → ℕ → List ℕ) → (ℕ → ℕ → List ℕ) → ℕ → List (Item Call)
in_turn p n out inbox i = all_leading (turns (out i) (inbox i) 1 (rounds_in p n))

module _ {S K : Type 0} (M : Machine S K) where
  -- "each later one the state that the last one returned or left": the state after a list
  unfoldable pub final : S → List (Item K) → S
  final s [] = s
  final s (leading k ∷ items) = final (M.after s k) items
  final s (extra k ∷ items) = final (M.after s k) items

  -- the state after the first j of the leading calls of a list
  unfoldable pub after_leading : ℕ → S → List (Item K) → S
  after_leading zero s items = s
  after_leading (suc j) s [] = s
  after_leading (suc j) s (leading k ∷ items) = after_leading j (M.after s k) items
  after_leading (suc j) s (extra k ∷ items) = after_leading (suc j) (M.after s k) items

  -- a call for the outcome, or one that is refused in the state s
  unfoldable pub idle : S → K → Bool
  idle s k = is_asking (M.call k) || not (eqb (M.refusal s k) 0)

  -- leading calls "with slices of the required length", what they are handed beside their values; "Calls that the rules below refuse may stand
  -- anywhere among them, with anything in their slices, and so may calls for the outcome."
  unfoldable pub allowed : S → List (Item K) → Bool
  allowed s [] = true
  allowed s (leading k ∷ items) = M.required k && allowed (M.after s k) items
  allowed s (extra k ∷ items) = idle s k && allowed (M.after s k) items

  -- "that none of them is refused is part of the claim"
  unfoldable pub none_refused : S → List (Item K) → Bool
  none_refused s [] = true
  none_refused s (leading k ∷ items) = eqb (M.refusal s k) 0 && none_refused (M.after s k) items
  none_refused s (extra k ∷ items) = none_refused (M.after s k) items

  -- what the leading calls to speak wrote, round by round
  unfoldable pub wrote : S → List (Item K) → List (List ℕ)
  wrote s [] = []
  wrote s (leading k ∷ items) = spoken (M.call k) (M.written s k) (wrote (M.after s k) items)
  wrote s (extra k ∷ items) = wrote (M.after s k) items

  -- A RUN: column i held the record `held i` at the start and has the list of calls `lists i`; `out i r` and `inbox i r` are the slices of
  -- its calls to speak and to listen in round r

  -- "made fresh with the same n and m, each with its own number and any record of m bytes"
  unfoldable pub made : ℕ → ℕ → (ℕ → List ℕ) → ℕ → S
  made n m held i = M.fresh n m i (held i)

  pub record Run (p : Protocol) (n m : ℕ) (H : ℕ → Bool) (held : ℕ → List ℕ) (lists : ℕ → List (Item K)) (out inbox : ℕ → ℕ → List ℕ) : Type 0 where
    -- 4 ≤ n ≤ 31; "Any choice of at most t of the n columns is unsound"
    pub wall : Wall n H
    pub bytes_low : 1 ≤ m
    pub bytes_high : m ≤ 32
    -- the poster is one of the columns; in an agreement there is none, and this says nothing
    pub poster_low : 1 ≤ beside p
    pub poster_high : beside p ≤ n
    pub records : (i : ℕ) → Sound n H i → (length (held i) ≡ m) × Below 256 (held i)
    -- "In each list 3t + 8 calls to speak and as many to listen come in turn, the first to speak, with slices of the required length"; 6 of
    -- each in a posting
    pub calls_in_turn : (i : ℕ) → Sound n H i → leading_calls M.call (lists i) ≡ turns (out i) (inbox i) 1 (rounds_in p n)
    pub out_length : (i r : ℕ) → Sound n H i → 1 ≤ r → r ≤ rounds_in p n → length (out i r) ≡ n * values_in p n m r
    pub inbox_length : (i r : ℕ) → Sound n H i → 1 ≤ r → r ≤ rounds_in p n → length (inbox i r) ≡ n * values_in p n m r
    pub extras : (i : ℕ) → Sound n H i → T (allowed (made n m held i) (lists i))
    -- "the message from another sound column j is what j's call to speak wrote for i in that round; i's own place holds anything. A message
    -- from an unsound column is any 16-bit values": nothing is said of these
    pub mail : (r : ℕ) → 1 ≤ r → r ≤ rounds_in p n → Delivered n H (values_in p n m r) (λ j. get_or (wrote (made n m held j) (lists j)) (r - 1) []) (λ i. inbox i r)

  -- WHAT IS SAID OF ONE

  abbrev pub EveryRun : Protocol → ((n m : ℕ) (H : ℕ → Bool) (held : ℕ → List ℕ) (lists : ℕ → List (Item K)) → Type 0) → Type 0
  EveryRun p claim = (n m : ℕ) (H : ℕ → Bool) (held : ℕ → List ℕ) (lists : ℕ → List (Item K)) (out inbox : ℕ → ℕ → List ℕ) → Run p n m H held lists out inbox → claim n m H held lists

  -- "that none of them is refused is part of the claim": no column is refused when it is made, and none of the calls that lead through the rounds
  abbrev pub Accepted : ℕ → ℕ → (ℕ → Bool) → (ℕ → List ℕ) → (ℕ → List (Item K)) → Type 0
  Accepted n m H held lists = (i : ℕ) → Sound n H i → (M.fresh_refusal n m i (held i) ≡ 0) × T (none_refused (made n m held i) (lists i))

  -- "Its outcome is what any call for it gives after round 3t + 8", of 6 in a posting: of sound column i, asked at any place behind its last
  -- leading call
  abbrev pub AtEnd : ℕ → ℕ → (ℕ → Bool) → (ℕ → List ℕ) → (ℕ → List (Item K)) → (ℕ → S → K → Type 0) → Type 0
  AtEnd n m H held lists claim =
      (i : ℕ) → Sound n H i → (before behind : List (Item K)) → lists i ≡ before ++ behind → leading_calls M.call behind ≡ []
      → (k : K) → M.call k ≡ Asks → T (M.required k) → claim i (final (made n m held i) before) k

  -- of sound column i, at every place of its list behind its first j leading calls
  abbrev pub Behind : ℕ → ℕ → ℕ → (ℕ → Bool) → (ℕ → List ℕ) → (ℕ → List (Item K)) → (ℕ → S → Type 0) → Type 0
  Behind j n m H held lists claim =
      (i : ℕ) → Sound n H i → (before behind : List (Item K)) → lists i ≡ before ++ behind → j ≤ length (leading_calls M.call before) → claim i (final (made n m held i) before)

  -- it answers, with none or a record's m bytes
  abbrev pub Answers : ℕ → Option (List ℕ) → S → K → Type 0
  Answers m value s k = (M.refusal s k ≡ 0) × (M.told s k m ≡ value)

-- a machine whose calls are handed nothing else, and lists of leading calls alone
abbrev pub EveryTurn : {S : Type 0} → Machine S Call → Protocol → ((n m : ℕ) (H : ℕ → Bool) (held : ℕ → List ℕ) (lists : ℕ → List (Item Call)) → Type 0) → Type 0
EveryTurn N p claim =
    (n m : ℕ) (H : ℕ → Bool) (held : ℕ → List ℕ) (out inbox : ℕ → ℕ → List ℕ) → Run N p n m H held (in_turn p n out inbox) out inbox → claim n m H held (in_turn p n out inbox)
