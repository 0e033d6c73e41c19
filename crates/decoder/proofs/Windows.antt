-- Windows: k places side by side. Of t + 1 windows one has no place that an answer misses, since it misses t places at most, and the
-- polynomial through the points of that one is the answer.
use Rattle.std.specs.Prelude.{◌≡◌, refl, Bool, true, false, not, cond, List, [], ◌∷◌, map, ℕ, zero, suc, ◌+◌, ◌-◌, ◌*◌, ◌≤◌, ◌<◌, ltb}
use Rattle.std.proofs.Common.{sym, ap, ◌∙◌, add-one, arith, eqb→eq}
use Rattle.std.proofs.Math.Decide.{dec_le}
use Rattle.lists.specs.Lists.{bit, count}
use Rattle.lists.specs.Count.{count_not, longer}
use Rattle.field.specs.Field.{of, subtract, multiply, inverse, inverse_below}
use Rattle.block.specs.Block.{value}
use Rattle.sizes.specs.Sizes.{faults, degree}
use Rattle.messages.specs.Messages.{from as at}
use Rattle.decoder.specs.Decoder.{meets_at, hits, IsAnswer, slope, slopes, under, through, coefficients, decoded, four}
use Rattle.decoder.specs.Interpolation.{Rising, On, map_on, through_on}
use Rattle.decoder.specs.Exactly.{Accepts}
use Rattle.decoder.proofs.Exactly.{sizes, no_answer}
use Rattle.decoder.specs.Answers.{Through}
use Rattle.decoder.proofs.Answers.{meets_too}
use Rattle.decoder.specs.Steps.{make, same}
use Rattle.decoder.specs.declared.Coefficients.{Coefficients}
use Rattle.decoder.specs.Decoder.{Nothing}
use Rattle.decoder.specs.Windows.{window}

rising : (a k : ℕ) → a + k < 257 → Rising (suc a) (window a k)
unfolding window
rising a zero h = tt
rising a (suc k) h = (omega arith, omega arith, rising (suc a) k (omega arith))

-- f misses y at place i
abbrev misses : List ℕ → (ℕ → ℕ) → ℕ → Bool
misses f y i = not (meets_at f y i)

-- where the count of missed places does not grow over a window, none of its places is missed
none_missed : (f : List ℕ) (y : ℕ → ℕ) (a k : ℕ) → count (misses f y) (a + k) ≤ count (misses f y) a → On (window a k) y f
unfolding window count
none_missed f y a zero h = tt
none_missed f y a (suc k) h =
    let e : k + suc a ≡ a + suc k = omega arith in
    let e' : suc a + k ≡ a + suc k = omega arith in
    let l : bit (misses f y (suc a)) + count (misses f y) a ≤ count (misses f y) (a + suc k) = rw e at (longer (misses f y) (suc a) k) in
    (go (meets_at f y (suc a)) refl (omega arith), none_missed f y (suc a) k (rw e' (omega arith)))
  where
    go : (b : Bool) → meets_at f y (suc a) ≡ b → bit (not b) ≤ 0 → y (suc a) ≡ value f (suc a)
    go true m l = sym (eqb→eq (value f (suc a)) (y (suc a)) (rw m tt))
    go false m l = absurd (omega arith)

-- THE POLYNOMIAL THROUGH A WINDOW OF ONE OR TWO PLACES

-- from a place to the next the slope is the difference of the values
next_slope : (x v u : ℕ) → slope x v (suc x) u ≡ subtract u v
unfolding inverse inverse_below
next_slope x v u =
    let e : subtract (suc x) x ≡ 1 = omega arith in
    let one : inverse 1 ≡ 1 = refl in
    ap (λ (z : ℕ). multiply (subtract u v) (inverse z)) e ∙ ap (λ (z : ℕ). multiply (subtract u v) z) one ∙ omega arith

through_one : (x v : ℕ) → make (subtract v (multiply x 0)) 0 0 0 ≡ coefficients (through (x ∷ []) (v ∷ []))
unfolding through under slopes
through_one x v = same (omega arith) refl refl refl

through_two : (x v u : ℕ) → make (subtract v (multiply x (subtract u v))) (subtract u v) 0 0 ≡ coefficients (through (x ∷ suc x ∷ []) (v ∷ u ∷ []))
unfolding through under slopes
through_two x v u =
    let e : subtract u v ≡ of (slope x v (suc x) u) = omega (arith, next_slope x v u) in
    same (ap (λ (z : ℕ). subtract v (multiply x z)) e) (omega (arith, next_slope x v u)) refl refl

pub through_window : (points : List ℕ) (a k v u up : ℕ) → 1 ≤ k → k ≤ 2 → v ≡ at points (a + 1) → u ≡ at points (a + 2) → up ≡ cond (ltb 1 k) (subtract u v) 0
    → Through points (window a k) k (make (subtract v (multiply (a + 1) up)) up 0 0)
unfolding window
through_window points a zero v u up l h ev eu e = absurd (omega arith)
through_window points a (suc zero) v u up l h ev eu e = record { size = refl; is = rw (e, ev, add-one) (through_one (suc a) (at points (suc a))) }
through_window points a (suc (suc zero)) v u up l h ev eu e =
    let two : a + 2 ≡ suc (suc a) = omega arith in
    record { size = refl; is = rw (e, ev, eu, two, add-one) (through_two (suc a) (at points (suc a)) (at points (suc (suc a)))) }
through_window points a (suc (suc (suc k))) v u up l h ev eu e = absurd (omega arith)

-- THE WINDOWS ONE AFTER THE OTHER

-- w windows of one or two places are behind, up to place a, and an answer misses a place of each
pub record Missed (n : ℕ) (points : List ℕ) (w a : ℕ) : Type 0 where
  pub turns : w ≤ faults n + 1
  pub near : a ≤ 2 * w
  pub missed : (f : List ℕ) → IsAnswer n points f → w ≤ count (misses f (at points)) a

pub missed_none : (n : ℕ) (points : List ℕ) → Missed n points 0 0
missed_none n points = record { turns = omega arith; near = omega arith; missed = λ f i. omega arith }

module _ (n : ℕ) (points : List ℕ) (ok : Accepts n points) (w a : ℕ) (m : Missed n points w a) where
  -- the polynomial through the next window meets too few
  pub missed_more : (k : ℕ) (c : Coefficients) → w ≤ faults n → k ≡ degree n + 1 → k ≤ 2 → Through points (window a k) k c → hits (four c) (at points) n < n - faults n
      → Missed n points (w + 1) (a + k)
  missed_more k c l ek h p few =
      record { turns = omega arith; near = omega (arith, m.near); missed = λ f i. go f i (dec_le (count (misses f (at points)) (a + k)) (count (misses f (at points)) a)) }
    where
      go : (f : List ℕ) → IsAnswer n points f → Dec (count (misses f (at points)) (a + k) ≤ count (misses f (at points)) a) → w + 1 ≤ count (misses f (at points)) (a + k)
      go f i (no g) = omega (arith, m.missed f i)
      go f i (yes g) =
          let xs : List ℕ = window a k in
          let is_f : through xs (map (at points) xs) ≡ f =
          ap (λ (vs : List ℕ). through xs vs) (map_on xs (at points) f (none_missed f (at points) a k g))
          ∙ through_on xs f (suc a) (i.size ∙ sym (p.size ∙ ek)) i.small (rising a k (omega (arith, m.near, (sizes n points ok).faults_high))) in
          absurd (omega (arith, meets_too n points ok xs k c f p i is_f))

  -- after t + 1 windows there is none: an answer misses t places at most
  pub missed_all : faults n < w → Nothing ≡ decoded n points
  missed_all l =
      sym (no_answer n points ok (λ f i.
      let e : n - a + a ≡ n = omega (arith, m.turns, m.near, (sizes n points ok).faults_few, (sizes n points ok).faults_low) in
      let more : count (misses f (at points)) a ≤ count (misses f (at points)) n = rw e at (longer (misses f (at points)) a (n - a)) in
      omega (arith, m.missed f i, i.meets, count_not (meets_at f (at points)) n, (sizes n points ok).faults_few)))
