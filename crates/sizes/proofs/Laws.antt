-- The laws of the sizes: that the tables are document 01's formulas, how large each size can get, and what an accepted wall has (`Sized`, `Accepted`).
use Rattle.std.specs.Prelude.{◌≡◌, refl, Bool, true, false, cond, ◌&&◌, ◌||◌, ◌⊎◌, List, [], ◌∷◌, ℕ, ◌+◌, ◌-◌, ◌*◌, ◌/◌, ◌≤◌, ◌<◌, T, eqb, leb, ltb}
use Rattle.std.proofs.Common.{true≢false, inl, inr, eq-zero-or-pos, div-mul-le_self, le-div_iff_mul-le, mul-le-mul_left, arith, ltb-false, lt-ltb, le-ltb, eqb→eq, leb→le}
use Rattle.std.proofs.Math.Nat.{div-eq_of_lt, lt-div-mul-add, div-le_of_le-mul}
use Rattle.std.proofs.Math.Decide.{dec_le}
use Rattle.std.proofs.lemmas.Bool.{lt-leb}
use Rattle.lists.specs.Lists.{all}
use Rattle.lists.specs.Entries.{all_each}
use Rattle.lists.specs.Tests.{and_left, and_right}
use Rattle.sizes.specs.Sizes.{Row, ◌to◌is◌, look_up, fault_rows, faults, degree_rows, degree, blocks, outside, refusal}
use Rattle.sizes.specs.Laws.{InRange, Sized, Accepted}

-- THE TABLES OF t AND d

-- what a computed test says of every number up to 31
computed : (f g : ℕ → ℕ) → T (all (λ n. eqb (f n) (g n)) 32) → (n : ℕ) → n ≤ 31 → f n ≡ g n
computed f g t n h = eqb→eq (f n) (g n) (all_each (λ n. eqb (f n) (g n)) 32 t n (omega arith))

-- "t = floor((n - 1) / 3)"
pub faults_formula : (n : ℕ) → n ≤ 31 → faults n ≡ (n - 1) / 3
unfolding all faults
faults_formula = computed faults (λ n. (n - 1) / 3) tt

-- "d = floor(t / 3)"
pub degree_formula : (n : ℕ) → n ≤ 31 → degree n ≡ faults n / 3
unfolding all faults degree
degree_formula = computed degree (λ n. faults n / 3) tt

-- no range goes past 31, and so past it both are 0
ends : List Row → Bool
ends [] = true
ends (first to last is y ∷ rows) = leb last 31 && ends rows

past : (rows : List Row) (n : ℕ) → T (ends rows) → 31 < n → look_up rows n ≡ 0
unfolding ends
past [] n t h = refl
past (first to last is y ∷ rows) n t h =
    let e : leb n last ≡ false = lt-leb n last (omega (arith, leb→le last 31 (and_left (leb last 31) (ends rows) t))) in
    rw e (go (leb first n) (past rows n (and_right (leb last 31) (ends rows) t) h))
  where
    go : (b : Bool) → look_up rows n ≡ 0 → cond (b && false) y (look_up rows n) ≡ 0
    go true e = e
    go false e = e

pub faults_past : (n : ℕ) → 31 < n → faults n ≡ 0
unfolding faults ends
faults_past n = past fault_rows n tt

pub degree_past : (n : ℕ) → 31 < n → degree n ≡ 0
unfolding degree ends
degree_past n = past degree_rows n tt

-- BOUNDS OF ANY SIZES, IN RANGE OR NOT

bounds : (n : ℕ) → (3 * faults n ≤ n - 1) × (3 * degree n ≤ faults n) × (degree n ≤ 3)
bounds n = go (dec_le n 31)
  where
    go : Dec (n ≤ 31) → (3 * faults n ≤ n - 1) × (3 * degree n ≤ faults n) × (degree n ≤ 3)
    go (yes h) = omega (arith, faults_formula n h, degree_formula n h)
    go (no h) = omega (arith, faults_past n (omega arith), degree_past n (omega arith))

-- three of t are fewer than n columns
pub faults_fewer : (n : ℕ) → 3 * faults n ≤ n - 1
faults_fewer n = (bounds n).0

pub faults_le : (n : ℕ) → faults n ≤ n
faults_le n = omega (arith, bounds n)

-- nine of d are no more than n
pub degree_le : (n : ℕ) → 9 * degree n ≤ n
degree_le n = omega (arith, bounds n)

pub degree_small : (n : ℕ) → degree n ≤ 3
degree_small n = (bounds n).2

pub blocks_le : (n m : ℕ) → blocks n m ≤ m
unfolding blocks
blocks_le n m = go (eq-zero-or-pos m)
  where
    go : (m ≡ 0) ⊎ (0 < m) → (m + degree n) / (degree n + 1) ≤ m
    go (inl z) = omega (arith, div-eq_of_lt {n = m + degree n} {m = degree n + 1} (omega arith))
    go (inr p) = div-le_of_le-mul (degree n + 1) (omega (arith, mul-le-mul_left (degree n) p))

pub sized : (n m : ℕ) → InRange n m → Sized n m
unfolding blocks
sized n m r =
    let t : faults n ≡ (n - 1) / 3 = faults_formula n r.columns_high in
    let d : degree n ≡ faults n / 3 = degree_formula n r.columns_high in
    let enough : m < (m + degree n) / (degree n + 1) * (degree n + 1) + 1 = omega (arith, lt-div-mul-add {a = m + degree n} {b = degree n + 1} (omega arith)) in
    record {
      faults_few = omega arith;
      faults_most = omega arith;
      faults_low = omega arith;
      faults_high = omega arith;
      degree_few = omega arith;
      degree_most = omega arith;
      degree_high = omega arith;
      room = omega arith;
      blocks_enough = omega arith;
      blocks_least = omega (arith, div-mul-le_self (m + degree n) (degree n + 1));
      blocks_low = (le-div_iff_mul-le {k = degree n + 1} {x = 1} {y = m + degree n} (omega arith)).1 (omega arith);
      blocks_high = blocks_le n m;
    }

pub inside : (low high x : ℕ) → outside low high x ≡ false → (low ≤ x) × (x ≤ high)
unfolding outside
inside low high x = go (ltb x low) refl
  where
    go : (b : Bool) → ltb x low ≡ b → b || ltb high x ≡ false → (low ≤ x) × (x ≤ high)
    go true e h = absurd (true≢false h)
    go false e h = (ltb-false x low e, ltb-false high x h)

pub not_outside : (low high x : ℕ) → low ≤ x → x ≤ high → outside low high x ≡ false
unfolding outside
not_outside low high x l h = simp (le-ltb x low l, le-ltb high x h)

pub accepted : (n m number : ℕ) → refusal n m number ≡ 0 → Accepted n m number
unfolding refusal
accepted n m number = go (outside 4 31 n) (outside 1 32 m) (outside 1 n number) refl refl refl
  where
    go : (a b c : Bool) → outside 4 31 n ≡ a → outside 1 32 m ≡ b → outside 1 n number ≡ c → ◌≡◌ {A = ℕ} (cond a 1 (cond b 2 (cond c 3 0))) 0 → Accepted n m number
    go true b c ea eb ec h = absurd (omega arith)
    go false true c ea eb ec h = absurd (omega arith)
    go false false true ea eb ec h = absurd (omega arith)
    go false false false ea eb ec h =
        let i = inside 4 31 n ea in
        let j = inside 1 32 m eb in
        let k = inside 1 n number ec in
        record {
          range = record { columns_low = i.0; columns_high = i.1; bytes_low = j.0; bytes_high = j.1 };
          number_low = k.0;
          number_high = k.1;
        }

pub not_refused : (n m number : ℕ) → Accepted n m number → refusal n m number ≡ 0
unfolding refusal
not_refused n m number a =
    simp (
      not_outside 4 31 n a.range.columns_low a.range.columns_high,
      not_outside 1 32 m a.range.bytes_low a.range.bytes_high,
      not_outside 1 n number a.number_low a.number_high,
    )

-- a wall that has a column has column 1
pub first_column : (n m number : ℕ) → refusal n m number ≡ 0 → refusal n m 1 ≡ 0
first_column n m number e =
    let a = accepted n m number e in
    not_refused n m 1 (record { range = a.range; number_low = omega arith; number_high = omega (arith, a.number_low, a.number_high) })

-- the blocks of an accepted wall: no more than a record has places
pub few_blocks : (n m number : ℕ) → refusal n m number ≡ 0 → blocks n m ≤ 32
few_blocks n m number e = omega (arith, blocks_le n m, (accepted n m number e).range.bytes_high)

-- WHERE n ALONE IS IN QUESTION: one byte and column 1 are never refused

pub columns_sized : (n : ℕ) → 4 ≤ n → n ≤ 31 → Sized n 1
columns_sized n l h = sized n 1 (record { columns_low = l; columns_high = h; bytes_low = omega arith; bytes_high = omega arith })

pub column_accepted : (n i : ℕ) → 4 ≤ n → n ≤ 31 → 1 ≤ i → i ≤ n → refusal n 1 i ≡ 0
column_accepted n i l h low high =
    not_refused n 1 i (record {
      range = record { columns_low = l; columns_high = h; bytes_low = omega arith; bytes_high = omega arith };
      number_low = low;
      number_high = high;
    })

pub columns_accepted : (n : ℕ) → 4 ≤ n → n ≤ 31 → refusal n 1 1 ≡ 0
columns_accepted n l h = column_accepted n 1 l h (omega arith) (omega arith)

-- n and a column of an accepted wall
pub column_of_lem : (n m number i : ℕ) → refusal n m number ≡ 0 → 1 ≤ i → i ≤ n → refusal n 1 i ≡ 0
column_of_lem n m number i e low high =
    let a = accepted n m number e in
    column_accepted n i a.range.columns_low a.range.columns_high low high

pub columns_of : (n m number : ℕ) → refusal n m number ≡ 0 → refusal n 1 1 ≡ 0
columns_of n m number e = let a = accepted n m number e in columns_accepted n a.range.columns_low a.range.columns_high

pub columns_refused : (n : ℕ) → (n < 4) ⊎ (31 < n) → refusal n 1 1 ≡ 1
unfolding refusal outside
columns_refused n (inl h) = simp (lt-ltb n 4 h)
columns_refused n (inr h) = simp (le-ltb n 4 (omega arith), lt-ltb 31 n h)
