-- What one turn does to a pair: the polynomials behind its 64 numbers.
use Rattle.std.specs.Prelude.{◌≡◌, refl, ◌⊎◌, List, length}
use Rattle.std.proofs.Common.{sym, ap, ap₂, ◌∙◌, inl, inr, ⊎_elim, eq-zero-or-pos, eq-or-lt_of_le, le_of_suc-le-suc, arith, lit<}
use Prim.Native.Nat.{ℕ, suc, ◌+◌, ◌-◌, ◌*◌, ◌%◌, ◌≤◌, ◌<◌}
use Rattle.std.proofs.Math.ListN.{get_or}
use Rattle.lists.specs.Lists.{Below}
use Rattle.lists.specs.Entries.{get_d_list_of}
use Rattle.field.specs.Field.{of, subtract, multiply}
use Rattle.field.specs.Congruence.{◌≋◌, reduce, plus, scale, times, products}
use Rattle.field.specs.Laws.{cancel}
use Rattle.block.specs.Block.{value}
use Rattle.block.proofs.Values.{value_lt}
use Rattle.block.proofs.Algebra.{sum, scale as scaled, raised as raised_by, value_sum, value_scale, value_raised, length_sum, length_scale, length_raised, length_raised_none}
use Rattle.locator.specs.Held.{held_cleared, held_raised}
use Rattle.messages.specs.Messages.{said as point_at}
use Rattle.locator.specs.Locator.{discrepancy, mixed_at, cleared, raised_at, raised}

-- ARITHMETIC

-- d + y E = Q, times G
fit_raised : (d y E Q G D E' Q' : ℕ) → d + y * E ≋ Q → D ≋ G * d → E' ≋ G * E → Q' ≋ G * Q → D + y * E' ≋ Q'
fit_raised d y E Q G D E' Q' h hd he hq =
    plus D (G * d) (y * E') (y * (G * E)) hd (scale y E' (G * E) he) ∙ ap of (omega arith) ∙ scale G (d + y * E) Q h ∙ sym hq

-- a times one fit plus b times another
fit_mixed : (a b y d E Q d₁ E₁ Q₁ D E' Q' : ℕ) → d + y * E ≋ Q → d₁ + y * E₁ ≋ Q₁
    → D ≋ a * d + b * d₁ → E' ≋ a * E + b * E₁ → Q' ≋ a * Q + b * Q₁ → D + y * E' ≋ Q'
fit_mixed a b y d E Q d₁ E₁ Q₁ D E' Q' h h₁ hd he hq =
    plus D (a * d + b * d₁) (y * E') (y * (a * E + b * E₁)) hd (scale y E' (a * E + b * E₁) he)
    ∙ ap of (omega arith)
    ∙ plus (a * (d + y * E)) (a * Q) (b * (d₁ + y * E₁)) (b * Q₁) (scale a (d + y * E) Q h) (scale b (d₁ + y * E₁) Q₁ h₁)
    ∙ sym hq

-- the discrepancy x of the leading pair and y of the other cancel
cancelled : (x y : ℕ) → x * y + subtract 0 y * x ≋ 0
cancelled x y =
    let z : y + subtract 0 y ≋ 0 = omega arith in
    let none : x * 0 ≋ 0 = omega arith in
    ap of (omega arith) ∙ scale x (y + subtract 0 y) 0 z ∙ none

-- numbers of the field that are equal modulo 257
exact : {a b : ℕ} → a < 257 → b < 257 → a ≋ b → a ≡ b
exact h k e = omega arith

drop_common : (a b c : ℕ) → a + c ≋ b + c → a ≋ b
drop_common a b c h = omega arith

-- two pairs at the point 0: what was independent stays so
still_apart : (g a b Q E Q₁ E₁ X Y U Z : ℕ) → 0 < g → g < 257 → 0 < a → a < 257 → (Q * E₁ ≋ Q₁ * E → ⊥)
    → X ≋ g * Q → Y ≋ a * E₁ + b * E → U ≋ a * Q₁ + b * Q → Z ≋ g * E → X * Y ≋ U * Z → ⊥
still_apart g a b Q E Q₁ E₁ X Y U Z pg lg pa la ne hx hy hu hv h =
    ne (cancel a (Q * E₁) (Q₁ * E) pa la (drop_common (a * (Q * E₁)) (a * (Q₁ * E)) (b * (Q * E)) without_g))
  where
    with_g : g * (Q * (a * E₁ + b * E)) ≋ g * ((a * Q₁ + b * Q) * E)
    with_g =
        ap of (omega arith) ∙ sym (times X (g * Q) Y (a * E₁ + b * E) hx hy) ∙ h ∙ times U (a * Q₁ + b * Q) Z (g * E) hu hv ∙ ap of (omega arith)

    without_g : a * (Q * E₁) + b * (Q * E) ≋ a * (Q₁ * E) + b * (Q * E)
    without_g = ap of (omega arith) ∙ cancel g (Q * (a * E₁ + b * E)) ((a * Q₁ + b * Q) * E) pg lg with_g ∙ ap of (omega arith)

-- POLYNOMIALS

-- a f + b g has no more coefficients than f, where g has not or b is 0
pub record Mix (a b : ℕ) (f g : List ℕ) (m : ℕ) : Type 0 where
  pub poly : List ℕ
  pub size : length poly ≤ m
  pub values : (x : ℕ) → value poly x ≋ a * value f x + b * value g x

pub mix : (a b : ℕ) (f g : List ℕ) (m : ℕ) → length f ≤ m → (length g ≤ m) ⊎ (b ≡ 0) → Mix a b f g m
mix a b f g m h (inl k) =
    record {
      poly = sum (scaled a f) (scaled b g);
      size = length_sum (scaled a f) (scaled b g) m (omega (arith, length_scale a f)) (omega (arith, length_scale b g));
      values = λ x. value_sum (scaled a f) (scaled b g) x
          ∙ plus (value (scaled a f) x) (a * value f x) (value (scaled b g) x) (b * value g x) (value_scale a f x) (value_scale b g x);
    }
mix a b f g m h (inr z) =
    record {
      poly = scaled a f;
      size = omega (arith, length_scale a f);
      values = λ x. value_scale a f x ∙ ap of (rw z (omega arith));
    }

-- PAIRS

-- the polynomials behind the numbers of a pair with a weight, and the first j points fitted
pub record Pair (w : ℕ) (points l : List ℕ) (weight j : ℕ) : Type 0 where
  pub e : List ℕ
  pub q : List ℕ
  pub small : Below 257 l
  pub e_values : (i : ℕ) → i < 32 → get_or l i 0 ≡ value e (i + 1)
  pub d_values : (i : ℕ) → i < 32 → discrepancy l i + point_at points i * value e (i + 1) ≋ value q (i + 1)
  pub fitted : (i : ℕ) → i < j → point_at points i < 257 → discrepancy l i ≡ 0
  pub e_size : length e ≤ suc weight - w
  pub q_size : length q ≤ suc weight

-- the pairs are independent at the point 0, which is no place
unfoldable pub Apart : {w : ℕ} {points l m : List ℕ} {v u j : ℕ} → Pair w points l v j → Pair w points m u j → Type 0
Apart x y = value x.q 0 * value y.e 0 ≋ value y.q 0 * value x.e 0 → ⊥

-- LEADING: TIMES (x - r)

module _ (r : ℕ) (l : List ℕ) (low : 1 ≤ r) (high : r ≤ 32) where
  factor : (x : ℕ) → subtract x r ≋ x + (257 - r)
  factor x = omega arith

  raised_at_lem : (i k : ℕ) → i < 64 → i % 32 ≡ k → get_or (raised r l) i 0 ≋ (k + 1 + (257 - r)) * get_or l i 0
  unfolding raised raised_at
  raised_at_lem i k h e =
      rw (get_d_list_of (raised_at r l) 64 i 0 h, e)
      (reduce (subtract (k + 1) r * get_or l i 0) ∙ times (subtract (k + 1) r) (k + 1 + (257 - r)) (get_or l i 0) (get_or l i 0) (factor (k + 1)) refl)

  -- its own place is fitted, and what was fitted stays so
  raised_own : (i : ℕ) → i < 32 → i + 1 ≡ r → discrepancy (raised r l) i ≡ 0
  raised_own i h e =
      let f : i + 1 + (257 - r) ≡ 257 = omega arith in
      let g : 257 * discrepancy l i ≋ 0 = omega arith in
      exact ((held_raised r l).small (32 + i)) (lit< tt) (raised_at_lem (32 + i) i (omega arith) (omega arith) ∙ ap (λ (z : ℕ). of (z * discrepancy l i)) f ∙ g)

  raised_zero : (i : ℕ) → i < 32 → discrepancy l i ≡ 0 → discrepancy (raised r l) i ≡ 0
  raised_zero i h z =
      let g : (i + 1 + (257 - r)) * 0 ≋ 0 = omega arith in
      exact ((held_raised r l).small (32 + i)) (lit< tt) (raised_at_lem (32 + i) i (omega arith) (omega arith) ∙ ap (λ (d : ℕ). of ((i + 1 + (257 - r)) * d)) z ∙ g)

-- the pair that leads at index j
pub raised_pair : (w : ℕ) (points l : List ℕ) (weight j : ℕ) → j < 32 → Pair w points l weight j → Pair w points (raised (j + 1) l) (weight + 1) (suc j)
raised_pair w points l weight j h p =
    let r : ℕ = j + 1 in
    let low : 1 ≤ r = omega arith in
    let high : r ≤ 32 = omega arith in
    record {
      e = raised_by r p.e;
      q = raised_by r p.q;
      small = (held_raised r l).small;
      e_values = λ i b.
          exact ((held_raised r l).small i) (value_lt (raised_by r p.e) (i + 1))
          (raised_at_lem r l low high i i (omega arith) (omega arith) ∙ ap (λ (z : ℕ). of ((i + 1 + (257 - r)) * z)) (p.e_values i b)
          ∙ sym (value_raised r p.e (i + 1)));
      d_values = λ i b.
          fit_raised (discrepancy l i) (point_at points i) (value p.e (i + 1)) (value p.q (i + 1)) (i + 1 + (257 - r))
          (discrepancy (raised r l) i) (value (raised_by r p.e) (i + 1)) (value (raised_by r p.q) (i + 1)) (p.d_values i b)
          (raised_at_lem r l low high (32 + i) i (omega arith) (omega arith)) (value_raised r p.e (i + 1)) (value_raised r p.q (i + 1));
      fitted = λ i b y.
          ⊎_elim (λ (e : i ≡ j). raised_own r l low high i (omega arith) (omega arith)) (λ (k : i < j). raised_zero r l low high i (omega arith) (p.fitted i k y))
          (eq-or-lt_of_le (le_of_suc-le-suc b));
      e_size = size (eq-zero-or-pos (length p.e));
      q_size = omega (arith, p.q_size, length_raised r p.q);
    }
  where
    size : (length p.e ≡ 0) ⊎ (0 < length p.e) → length (raised_by (j + 1) p.e) ≤ suc (weight + 1) - w
    size (inl z) = omega (arith, length_raised_none (j + 1) p.e z)
    size (inr k) = omega (arith, p.e_size, length_raised (j + 1) p.e)

-- THE OTHER: ITS DISCREPANCY TAKEN AWAY

module _ (j : ℕ) (other lead : List ℕ) where
  cleared_at : (i : ℕ) → i < 64 → get_or (cleared j other lead) i 0 ≋ discrepancy lead j * get_or other i 0 + subtract 0 (discrepancy other j) * get_or lead i 0
  unfolding cleared mixed_at
  cleared_at i h =
      let a : ℕ = discrepancy lead j in
      let b : ℕ = subtract 0 (discrepancy other j) in
      rw (get_d_list_of (mixed_at a b other lead) 64 i 0 h) (reduce (multiply a (get_or other i 0) + multiply b (get_or lead i 0)) ∙ products a (get_or other i 0) b (get_or lead i 0))

  -- its discrepancy at j is gone, and what both fitted both fit
  cleared_own : j < 32 → discrepancy (cleared j other lead) j ≡ 0
  cleared_own h =
      exact ((held_cleared j other lead).small (32 + j)) (lit< tt) (cleared_at (32 + j) (omega arith) ∙ cancelled (discrepancy lead j) (discrepancy other j))

  cleared_zero : (i : ℕ) → i < 32 → discrepancy other i ≡ 0 → discrepancy lead i ≡ 0 → discrepancy (cleared j other lead) i ≡ 0
  cleared_zero i h y z =
      let a : ℕ = discrepancy lead j in
      let b : ℕ = subtract 0 (discrepancy other j) in
      let g : a * 0 + b * 0 ≋ 0 = omega arith in
      exact ((held_cleared j other lead).small (32 + i)) (lit< tt) (cleared_at (32 + i) (omega arith) ∙ ap₂ {C = ℕ} (λ c d. of (a * c + b * d)) y z ∙ g)

-- the leading pair is the lighter, or the other needs nothing of it
abbrev pub Free : ℕ → List ℕ → ℕ → ℕ → Type 0
Free j other weight lead_weight = (lead_weight ≤ weight) ⊎ (discrepancy other j ≡ 0)

-- a lighter pair has no more coefficients
room : (d weight lead_weight x y : ℕ) → (lead_weight ≤ weight) ⊎ (d ≡ 0) → (lead_weight ≤ weight → x ≤ y) → (x ≤ y) ⊎ (subtract 0 d ≡ 0)
room d weight lead_weight x y (inl h) f = inl (f h)
room d weight lead_weight x y (inr z) f = inr (rw z refl)

-- the other pair at index j, and the polynomials behind it
pub record Cleared (w : ℕ) (points other lead : List ℕ) (weight lead_weight j : ℕ) (p : Pair w points other weight j) (l : Pair w points lead lead_weight j) : Type 0 where
  pub pair : Pair w points (cleared j other lead) weight (suc j)
  pub e_mixed : (x : ℕ) → value pair.e x ≋ discrepancy lead j * value p.e x + subtract 0 (discrepancy other j) * value l.e x
  pub q_mixed : (x : ℕ) → value pair.q x ≋ discrepancy lead j * value p.q x + subtract 0 (discrepancy other j) * value l.q x

pub cleared_pair : (w : ℕ) (points other lead : List ℕ) (weight lead_weight j : ℕ) → j < 32 → (p : Pair w points other weight j) (l : Pair w points lead lead_weight j)
    → Free j other weight lead_weight → Cleared w points other lead weight lead_weight j p l
cleared_pair w points other lead weight lead_weight j h p l free =
    let a : ℕ = discrepancy lead j in
    let b : ℕ = subtract 0 (discrepancy other j) in
    let me = mix a b p.e l.e (suc weight - w) p.e_size (room (discrepancy other j) weight lead_weight (length l.e) (suc weight - w) free (λ k. omega (arith, l.e_size))) in
    let mq = mix a b p.q l.q (suc weight) p.q_size (room (discrepancy other j) weight lead_weight (length l.q) (suc weight) free (λ k. omega (arith, l.q_size))) in
    record {
      pair = record {
        e = me.poly;
        q = mq.poly;
        small = (held_cleared j other lead).small;
        e_values = λ i k.
            exact ((held_cleared j other lead).small i) (value_lt me.poly (i + 1))
            (cleared_at j other lead i (omega arith) ∙ ap₂ {C = ℕ} (λ x y. of (a * x + b * y)) (p.e_values i k) (l.e_values i k) ∙ sym (me.values (i + 1)));
        d_values = λ i k.
            fit_mixed a b (point_at points i) (discrepancy other i) (value p.e (i + 1)) (value p.q (i + 1)) (discrepancy lead i) (value l.e (i + 1))
            (value l.q (i + 1)) (discrepancy (cleared j other lead) i) (value me.poly (i + 1)) (value mq.poly (i + 1)) (p.d_values i k) (l.d_values i k)
            (cleared_at j other lead (32 + i) (omega arith)) (me.values (i + 1)) (mq.values (i + 1));
        fitted = λ i k y.
            ⊎_elim (λ (e : i ≡ j). rw e (cleared_own j other lead h)) (λ (m : i < j). cleared_zero j other lead i (omega arith) (p.fitted i m y) (l.fitted i m y))
            (eq-or-lt_of_le (le_of_suc-le-suc k));
        e_size = me.size;
        q_size = mq.size;
      };
      e_mixed = me.values;
      q_mixed = mq.values;
    }

-- the pairs stay independent
pub turned_apart : (w : ℕ) (points other lead : List ℕ) (weight lead_weight j : ℕ) (h : j < 32) (p : Pair w points other weight j) (l : Pair w points lead lead_weight j)
    (free : Free j other weight lead_weight) → 0 < discrepancy lead j → Apart l p
    → Apart (raised_pair w points lead lead_weight j h l) (cleared_pair w points other lead weight lead_weight j h p l free).pair
unfolding Apart raised_pair
turned_apart w points other lead weight lead_weight j h p l free pos ne =
    let c = cleared_pair w points other lead weight lead_weight j h p l free in
    still_apart (257 - (j + 1)) (discrepancy lead j) (subtract 0 (discrepancy other j)) (value l.q 0) (value l.e 0) (value p.q 0) (value p.e 0)
    (value (raised_by (j + 1) l.q) 0) (value c.pair.e 0) (value c.pair.q 0) (value (raised_by (j + 1) l.e) 0)
    (omega arith) (omega arith) pos (l.small (32 + j)) ne
    (value_raised (j + 1) l.q 0 ∙ ap of (omega arith)) (c.e_mixed 0) (c.q_mixed 0) (value_raised (j + 1) l.e 0 ∙ ap of (omega arith))
