-- Why the lighter pair locates the wrong points: `located` gives the values of a polynomial e of at most t + 1 coefficients, for which
-- some q of at most n - t coefficients fits all points that are not blank, and e and q are not both 0. So where a polynomial f meets
-- n - t points, q = f e, and f meets every point at which e is not 0 (that is the decoder's argument).
use Rattle.std.specs.Prelude.{◌≡◌, Bool, true, false, cond, not, ◌&&◌, ◌||◌, List, [], ◌∷◌, eqb, leb, length, get_or}
use Rattle.std.proofs.Math.Path.{refl}
use Rattle.std.proofs.Common.{sym, ap, ◌∙◌, inl, inr, ⊎_elim, eq-or-lt_of_le, le_of_suc-le-suc, leb-true, leb-false, eqb-true, lt-ltb, le-ltb}
use Prim.Native.Nat.{ℕ, zero, suc, ◌+◌, ◌-◌, ◌*◌, ◌≤◌, ◌<◌}
use Rattle.std.proofs.Math.Decide.{dec_lt}
use native.Mathlib.Omega.{arith}
use Rattle.std.proofs.lemmas.Bool.{eqb-false}
use Rattle.std.proofs.Math.ListN.{get_or-eq_default}
use Rattle.lists.specs.Lists.{list_of}
use Rattle.lists.specs.Entries.{get_d_list_of}
use Rattle.field.specs.Field.{of, subtract, blank}
use Rattle.field.specs.Congruence.{◌≋◌}
use Rattle.block.specs.Block.{value}
use Rattle.messages.specs.Messages.{said as point_at}
use Rattle.locator.specs.Locator.{discrepancy, Run, first_at, second_at, start, first_leads, second_leads, turn, run, located}
use Rattle.locator.specs.Held.{held_first, held_second}
use Rattle.locator.specs.Steps.{Pair, Apart, Free, raised_pair, cleared_pair, turned_apart}

-- both pairs after the first j places
pub record Good (w n : ℕ) (points : List ℕ) (s : Run) (j : ℕ) : Type 0 where
  pub first_pair : Pair w points s.first s.first_weight j
  pub second_pair : Pair w points s.second s.second_weight j
  pub independent : Apart first_pair second_pair
  pub weights : s.first_weight + s.second_weight ≤ w + j
  pub all_weights : s.first_weight + s.second_weight ≤ w + n

-- THE START

constant : (x : ℕ) → value (1 ∷ []) x ≡ 1
unfolding value
constant x = omega arith

module _ (i : ℕ) (h : i < 32) where
  first_e : get_or (list_of first_at 64) i 0 ≡ 0
  unfolding first_at
  first_e = get_d_list_of first_at 64 i 0 (omega arith) ∙ simp (lt-ltb i 32 h)

  first_d : discrepancy (list_of first_at 64) i ≡ 1
  unfolding first_at
  first_d = get_d_list_of first_at 64 (32 + i) 0 (omega arith) ∙ simp (le-ltb (32 + i) 32 (omega arith))

  second_e : (points : List ℕ) → get_or (list_of (second_at points) 64) i 0 ≡ 1
  unfolding second_at
  second_e points = get_d_list_of (second_at points) 64 i 0 (omega arith) ∙ simp (lt-ltb i 32 h)

  second_d : (points : List ℕ) → discrepancy (list_of (second_at points) 64) i ≡ subtract 0 (point_at points i)
  unfolding second_at
  second_d points =
      let e : 32 + i - 32 ≡ i = omega arith in
      get_d_list_of (second_at points) 64 (32 + i) 0 (omega arith) ∙ simp (le-ltb (32 + i) 32 (omega arith), e)

start_good : (w n : ℕ) (points : List ℕ) → Good w n points (start w points) 0
unfolding start Apart value
start_good w n points =
    record {
      first_pair = record {
        e = [];
        q = 1 ∷ [];
        small = held_first.small;
        e_values = first_e;
        d_values = λ i h. rw (first_d i h) (omega arith);
        fitted = λ i h. absurd (omega arith);
        e_size = omega arith;
        q_size = omega arith;
      };
      second_pair = record {
        e = 1 ∷ [];
        q = [];
        small = (held_second points).small;
        e_values = λ i h. second_e i h points ∙ sym (constant (i + 1));
        d_values = λ i h. rw (second_d i h points, constant (i + 1)) (omega arith);
        fitted = λ i h. absurd (omega arith);
        e_size = omega arith;
        q_size = omega arith;
      };
      independent = λ e. omega arith;
      weights = omega arith;
      all_weights = omega arith;
    }

-- A TURN

-- a point that is not blank stands in the list
pub present : (points : List ℕ) (j : ℕ) → point_at points j < 257 → j < length points
unfolding point_at
present points j h = go (dec_lt j (length points))
  where
    go : Dec (j < length points) → j < length points
    go (yes l) = l
    go (no l) = absurd (omega (arith, get_or-eq_default points blank {n = j} (omega arith)))

-- nothing was to be done at index j
keep : {w : ℕ} {points l : List ℕ} {weight j : ℕ} → Pair w points l weight j → (point_at points j < 257 → discrepancy l j ≡ 0) → Pair w points l weight (suc j)
keep {w} {points} {l} {weight} {j} p z =
    record {
      e = p.e;
      q = p.q;
      small = p.small;
      e_values = p.e_values;
      d_values = p.d_values;
      fitted = λ i h y. ⊎_elim (λ (e : i ≡ j). rw e (z (rw e at y))) (λ (k : i < j). p.fitted i k y) (eq-or-lt_of_le (le_of_suc-le-suc h));
      e_size = p.e_size;
      q_size = p.q_size;
    }

flip : {w : ℕ} {points l m : List ℕ} {v u j : ℕ} (x : Pair w points l v j) (y : Pair w points m u j) → Apart x y → Apart y x
unfolding Apart
flip x y ne h = ne (sym h)

module _ (w n : ℕ) (points : List ℕ) (size : length points ≤ n) (s : Run) (j : ℕ) (h : j < 32) (g : Good w n points s j) where
  stays : (point_at points j < 257 → discrepancy s.first j ≡ 0) → (point_at points j < 257 → discrepancy s.second j ≡ 0) → Good w n points s (suc j)
  unfolding Apart keep
  stays x y =
      record {
        first_pair = keep g.first_pair x;
        second_pair = keep g.second_pair y;
        independent = g.independent;
        weights = omega (arith, g.weights);
        all_weights = g.all_weights;
      }

  first_leads_lem : point_at points j < 257 → 0 < discrepancy s.first j → Free j s.second s.second_weight s.first_weight
      → Good w n points (first_leads s j) (suc j)
  unfolding first_leads
  first_leads_lem y p free =
      record {
        first_pair = raised_pair w points s.first s.first_weight j h g.first_pair;
        second_pair = (cleared_pair w points s.second s.first s.second_weight s.first_weight j h g.second_pair g.first_pair free).pair;
        independent = turned_apart w points s.second s.first s.second_weight s.first_weight j h g.second_pair g.first_pair free p g.independent;
        weights = omega (arith, g.weights);
        all_weights = omega (arith, g.weights, present points j y);
      }

  second_leads_lem : point_at points j < 257 → 0 < discrepancy s.second j → Free j s.first s.first_weight s.second_weight
      → Good w n points (second_leads s j) (suc j)
  unfolding second_leads
  second_leads_lem y p free =
      let lead = raised_pair w points s.second s.second_weight j h g.second_pair in
      let other = (cleared_pair w points s.first s.second s.first_weight s.second_weight j h g.first_pair g.second_pair free).pair in
      record {
        first_pair = other;
        second_pair = lead;
        independent = flip lead other
            (turned_apart w points s.first s.second s.first_weight s.second_weight j h g.first_pair g.second_pair free p (flip g.first_pair g.second_pair g.independent));
        weights = omega (arith, g.weights);
        all_weights = omega (arith, g.weights, present points j y);
      }

  turn_good : Good w n points (turn s (point_at points j) j) (suc j)
  unfolding turn
  turn_good = go (leb 257 y) refl (eqb x 0) refl (eqb z 0) refl (leb s.first_weight s.second_weight) refl
    where
      x : ℕ
      x = discrepancy s.first j

      y : ℕ
      y = point_at points j

      z : ℕ
      z = discrepancy s.second j

      go : (a : Bool) → leb 257 y ≡ a → (b : Bool) → eqb x 0 ≡ b → (c : Bool) → eqb z 0 ≡ c → (d : Bool) → leb s.first_weight s.second_weight ≡ d
          → Good w n points (cond a s (cond (not b && (c || d)) (first_leads s j) (cond c s (second_leads s j)))) (suc j)
      go true ea b eb c ec d ed = stays (λ l. absurd (omega (arith, leb-true 257 y ea))) (λ l. absurd (omega (arith, leb-true 257 y ea)))
      go false ea true eb true ec d ed = stays (λ l. eqb-true x 0 eb) (λ l. eqb-true z 0 ec)
      go false ea true eb false ec d ed =
          second_leads_lem (leb-false 257 y ea) (omega (arith, eqb-false z 0 ec)) (inr (eqb-true x 0 eb))
      go false ea false eb true ec d ed =
          first_leads_lem (leb-false 257 y ea) (omega (arith, eqb-false x 0 eb)) (inr (eqb-true z 0 ec))
      go false ea false eb false ec true ed =
          first_leads_lem (leb-false 257 y ea) (omega (arith, eqb-false x 0 eb)) (inl (leb-true s.first_weight s.second_weight ed))
      go false ea false eb false ec false ed =
          second_leads_lem (leb-false 257 y ea) (omega (arith, eqb-false z 0 ec)) (inl (omega (arith, leb-false s.first_weight s.second_weight ed)))

run_good : (w n : ℕ) (points : List ℕ) → length points ≤ n → (j : ℕ) → j ≤ 32 → Good w n points (run w points j) j
unfolding run
run_good w n points size zero h = start_good w n points
run_good w n points size (suc j) h = turn_good w n points size (run w points j) j h (run_good w n points size j (omega arith))

-- THE LAW

-- the numbers l are the values of an error locator e for n points of which t may be wrong
pub record Locates (n t : ℕ) (points l : List ℕ) : Type 0 where
  pub e : List ℕ
  pub q : List ℕ
  pub e_size : length e ≤ t + 1
  pub q_size : length q ≤ n - t
  pub e_values : (i : ℕ) → i < n → get_or l i 0 ≡ value e (i + 1)
  pub fits : (i : ℕ) → i < n → point_at points i < 257 → value q (i + 1) ≋ point_at points i * value e (i + 1)
  pub not_zero : value e 0 ≡ 0 → value q 0 ≡ 0 → ⊥

module _ (n t : ℕ) (points : List ℕ) (high : n ≤ 32) (room : 2 * t < n) (size : length points ≤ n) where
  light : (l : List ℕ) (weight : ℕ) (p : Pair (n - 2 * t - 1) points l weight 32) → 2 * weight ≤ n - 2 * t - 1 + n
      → (value p.e 0 ≡ 0 → value p.q 0 ≡ 0 → ⊥) → Locates n t points l
  light l weight p h ne =
      record {
        e = p.e;
        q = p.q;
        e_size = omega (arith, p.e_size);
        q_size = omega (arith, p.q_size);
        e_values = λ i b. p.e_values i (omega arith);
        fits = λ i b y.
            sym (p.d_values i (omega arith)) ∙ rw (p.fitted i (omega arith) y) (ap of (omega arith));
        not_zero = ne;
      }

  pub locates : Locates n t points (located (n - 2 * t - 1) points)
  unfolding located Apart
  locates = go (leb s.first_weight s.second_weight) refl
    where
      s : Run
      s = run (n - 2 * t - 1) points 32

      g : Good (n - 2 * t - 1) n points s 32
      g = run_good (n - 2 * t - 1) n points size 32 (omega arith)

      go : (b : Bool) → leb s.first_weight s.second_weight ≡ b → Locates n t points (cond b s.first s.second)
      go true e =
          light s.first s.first_weight g.first_pair (omega (arith, leb-true s.first_weight s.second_weight e, g.all_weights))
          (λ x y. g.independent (rw (x, y) (omega arith)))
      go false e =
          light s.second s.second_weight g.second_pair (omega (arith, leb-false s.first_weight s.second_weight e, g.all_weights))
          (λ x y. g.independent (rw (x, y) (omega arith)))
