-- A run as the code holds it, and what it holds: 64 numbers below 257 a pair, and weights that fit 16 bits.
use Rattle.std.specs.Prelude.{Bool, true, false, cond, ◌≡◌, List, ℕ, zero, suc, ◌+◌, ◌-◌, ◌*◌, ◌%◌, ◌≤◌, ◌<◌, eqb, leb, ltb, length, get_or}
use Rattle.std.proofs.Common.{sym, ◌∙◌, mod-lt, arith, lit<}
use Rattle.std.proofs.Math.Path.{ap, ap₂}
use Rattle.std.proofs.Math.Numerals.{add-one}
use borrow.Author.Tests.{le-leb, lt-leb, eq-eqb, ne_eqb}
use Rattle.lists.specs.Lists.{Below, list_of}
use Rattle.lists.specs.Tests.{either_lt}
use Rattle.lists.specs.Entries.{length_list_of, below_list_of}
use Rattle.field.specs.Field.{subtract, multiply}
use Rattle.locator.specs.declared.Pair.{Pair}
use Rattle.messages.specs.Messages.{said as point_at}
use Rattle.locator.specs.Locator.{discrepancy, Run, first_at, second_at, start, mixed_at, cleared, raised_at, raised, leads, first_leads, second_leads, turn, run, lighter, located}

-- a run as the code holds it
abbrev pub run_of : Pair → Pair → Run
run_of a b = record { first = a.numbers; second = b.numbers; first_weight = a.weight; second_weight = b.weight }

pub record Held (l : List ℕ) : Type 0 where
  pub size : length l ≡ 64
  pub small : Below 257 l

pub held_list_of : (f : ℕ → ℕ) → ((i : ℕ) → f i < 257) → Held (list_of f 64)
held_list_of f h = record { size = length_list_of f 64; small = below_list_of 257 f 64 (lit< tt) h }

pub held_first : Held (list_of first_at 64)
unfolding first_at
held_first = held_list_of first_at (λ i. either_lt (ltb i 32) 0 1 257 (lit< tt) (lit< tt))

pub held_second : (points : List ℕ) → Held (list_of (second_at points) 64)
unfolding second_at
held_second points =
    held_list_of (second_at points) (λ i.
    either_lt (ltb i 32) 1 (subtract 0 (point_at points (i - 32))) 257 (lit< tt) (mod-lt (0 + (257 - point_at points (i - 32) % 257)) (lit< tt)))

pub held_cleared : (j : ℕ) (other lead : List ℕ) → Held (cleared j other lead)
unfolding cleared mixed_at
held_cleared j other lead =
    held_list_of (mixed_at (discrepancy lead j) (subtract 0 (discrepancy other j)) other lead)
    (λ i. mod-lt (multiply (discrepancy lead j) (get_or other i 0) + multiply (subtract 0 (discrepancy other j)) (get_or lead i 0)) (lit< tt))

pub held_raised : (r : ℕ) (lead : List ℕ) → Held (raised r lead)
unfolding raised raised_at
held_raised r lead = held_list_of (raised_at r lead) (λ i. mod-lt (subtract (i % 32 + 1) r * get_or lead i 0) (lit< tt))

-- THE PAIRS OF A RUN, and weights that fit 16 bits

pub record HeldRun (s : Run) (most : ℕ) : Type 0 where
  pub first_held : Held s.first
  pub second_held : Held s.second
  pub first_light : s.first_weight ≤ most
  pub second_light : s.second_weight ≤ most

held_turn : (s : Run) (y j most : ℕ) → HeldRun s most → HeldRun (turn s y j) (suc most)
unfolding turn first_leads second_leads
held_turn s y j most h = go (leb 257 y) (leads (discrepancy s.first j) (discrepancy s.second j) s.first_weight s.second_weight) (eqb (discrepancy s.second j) 0)
  where
    same : HeldRun s (suc most)
    same = record { first_held = h.first_held; second_held = h.second_held; first_light = omega (arith, h.first_light); second_light = omega (arith, h.second_light) }

    go : (a b c : Bool) → HeldRun (cond a s (cond b (first_leads s j) (cond c s (second_leads s j)))) (suc most)
    go true b c = same
    go false true c =
        record {
          first_held = held_raised (j + 1) s.first;
          second_held = held_cleared j s.second s.first;
          first_light = omega (arith, h.first_light);
          second_light = omega (arith, h.second_light);
        }
    go false false true = same
    go false false false =
        record {
          first_held = held_cleared j s.first s.second;
          second_held = held_raised (j + 1) s.second;
          first_light = omega (arith, h.first_light);
          second_light = omega (arith, h.second_light);
        }

pub held_run : (weight : ℕ) (points : List ℕ) (j : ℕ) → HeldRun (run weight points j) (weight + j)
unfolding run start
held_run weight points zero =
    record { first_held = held_first; second_held = held_second points; first_light = omega arith; second_light = omega arith }
held_run weight points (suc j) =
    let e : weight + suc j ≡ suc (weight + j) = omega arith in
    rw e (held_turn (run weight points j) (point_at points j) j (weight + j) (held_run weight points j))

-- A TURN BY ITS CASES

module _ (s : Run) (y j : ℕ) where
  pub turn_blank : 257 ≤ y → s ≡ turn s y j
  unfolding turn
  turn_blank h = simp (le-leb 257 y h)

  module _ (point : y < 257) where
    pub turn_first : leads (discrepancy s.first j) (discrepancy s.second j) s.first_weight s.second_weight ≡ true → first_leads s j ≡ turn s y j
    unfolding turn
    turn_first l = rw (lt-leb 257 y point, l)

    module _ (left : leads (discrepancy s.first j) (discrepancy s.second j) s.first_weight s.second_weight ≡ false) where
      pub turn_none : discrepancy s.second j ≡ 0 → s ≡ turn s y j
      unfolding turn
      turn_none z = rw (lt-leb 257 y point, left, eq-eqb (discrepancy s.second j) 0 z)

      pub turn_second : (discrepancy s.second j ≡ 0 → ⊥) → second_leads s j ≡ turn s y j
      unfolding turn
      turn_second z = rw (lt-leb 257 y point, left, ne_eqb (discrepancy s.second j) 0 z)

-- THE LOOP OVER THE PLACES: what the code holds is the run after the first j of them

pub record Running (weight : ℕ) (points : List ℕ) (a b : Pair) (j : ℕ) : Type 0 where
  pub within : j ≤ 32
  pub holds : run_of a b ≡ run weight points j

pub running_none : (weight : ℕ) (points a b : List ℕ) → a ≡ list_of first_at 64 → b ≡ list_of (second_at points) 64
    → Running weight points (record { numbers = a; weight = 0 }) (record { numbers = b; weight = weight }) 0
unfolding run start
running_none weight points a b ea eb = record { within = omega arith; holds = rw (ea, eb) }

module _ (weight : ℕ) (points : List ℕ) (a b : Pair) (j : ℕ) (r : Running weight points a b j) where
  pub running_more : (a' b' : Pair) (y : ℕ) → j < 32 → y ≡ point_at points j → run_of a' b' ≡ turn (run_of a b) y j
      → Running weight points a' b' (j + 1)
  unfolding run
  running_more a' b' y h e t =
      record { within = omega arith; holds = rw add-one (t ∙ ap₂ {C = Run} (λ s z. turn s z j) r.holds e) }

  pub running_held : HeldRun (run_of a b) (weight + j)
  running_held = rw r.holds (held_run weight points j)

  pub running_done : 32 ≤ j → located weight points ≡ cond (leb a.weight b.weight) a.numbers b.numbers
  unfolding located
  running_done h =
      let e : 32 ≡ j = omega (arith, r.within) in
      ap (λ (k : ℕ). lighter (run weight points k)) e ∙ ap lighter (sym r.holds)
