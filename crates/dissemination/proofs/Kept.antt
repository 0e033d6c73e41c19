-- The kept point: the least of the points that were received at least t + 1 times.
use Rattle.std.specs.Prelude.{◌≡◌, ◌⊎◌, Bool, not, ◌&&◌, List, ℕ, zero, suc, ◌+◌, ◌-◌, ◌*◌, ◌≤◌, ◌<◌, T, get_or}
use Rattle.std.proofs.Math.Path.{refl, ap}
use Rattle.std.proofs.Common.{sym, ◌∙◌, inl, inr, eq-or-lt_of_le, leb→le, le→leb, eqb→eq}
use Rattle.std.proofs.Math.Bool.{true, false, cond}
use native.Mathlib.Omega.{arith}
use borrow.Author.Tests.{lt-ltb, le-ltb, ltb-true, ltb-false, ne_eqb}
use Rattle.std.proofs.Math.Dec.{eqb, leb, ltb, not_T}
use Rattle.lists.specs.Lists.{count, list_of}
use Rattle.lists.specs.Entries.{get_d_list_of}
use Rattle.lists.specs.Tests.{passes}
use Rattle.lists.specs.Count.{mono, count_not, count_le, find, Found, count_same, count_past}
use Rattle.field.specs.Field.{blank}
use Rattle.sizes.specs.Sizes.{faults}
use Rattle.sizes.proofs.Laws.{faults_fewer}
use Rattle.messages.specs.Messages.{read_point, from, times}
use Rattle.messages.proofs.Laws.{point_is, same_point}
use Rattle.dissemination.specs.Dissemination.{least, often, kept_point}
use Rattle.dissemination.specs.Kept.{placed, weight}

-- THE LEAST NUMBER THAT PASSES

pub least_is : (P : ℕ → Bool) (v : ℕ) → T (P v) → ((w : ℕ) → w < v → T (P w) → ⊥) → (count u : ℕ) → u ≤ v → v < u + count → least P count u ≡ v
unfolding least
least_is P v h f zero u l m = absurd (omega arith)
least_is P v h f (suc count) u l m = go (P u) refl (eq-or-lt_of_le l) (least_is P v h f count (suc u))
  where
    go : (b : Bool) → P u ≡ b → (u ≡ v) ⊎ (u < v) → (suc u ≤ v → v < suc u + count → least P count (suc u) ≡ v) → cond (P u) u (least P count (suc u)) ≡ v
    go true e (inl q) g = rw e q
    go true e (inr q) g = absurd (f u q (passes (P u) e))
    go false e (inl q) g = let t : T (P u) = rw q h in absurd (rw e at t)
    go false e (inr q) g = rw e (g q (omega arith))

pub least_none : (P : ℕ → Bool) (count u : ℕ) → ((w : ℕ) → u ≤ w → w < u + count → T (P w) → ⊥) → least P count u ≡ blank
unfolding least
least_none P zero u f = refl
least_none P (suc count) u f = go (P u) refl (least_none P count (suc u) (λ w l m. f w (omega arith) (omega arith)))
  where
    go : (b : Bool) → P u ≡ b → least P count (suc u) ≡ blank → cond (P u) u (least P count (suc u)) ≡ blank
    go true e g = absurd (f u (omega arith) (omega arith) (passes (P u) e))
    go false e g = rw e g

-- one of the numbers asked about, or blank
pub least_one : (P : ℕ → Bool) (count u : ℕ) → (least P count u < u + count) ⊎ (least P count u ≡ blank)
unfolding least
least_one P zero u = inr refl
least_one P (suc count) u = go (P u) (least_one P count (suc u))
  where
    go : (b : Bool) → (least P count (suc u) < suc u + count) ⊎ (least P count (suc u) ≡ blank)
        → (cond b u (least P count (suc u)) < u + suc count) ⊎ (cond b u (least P count (suc u)) ≡ blank)
    go true h = inl (omega arith)
    go false (inl h) = inl (omega arith)
    go false (inr h) = inr h

pub least_same : (P Q : ℕ → Bool) (count u : ℕ) → ((v : ℕ) → v < u + count → P v ≡ Q v) → least P count u ≡ least Q count u
unfolding least
least_same P Q zero u h = refl
least_same P Q (suc count) u h = rw (h u (omega arith), least_same P Q count (suc u) (λ v l. h v (omega arith)))

-- THE KEPT POINT

module _ (n : ℕ) (f g : ℕ → ℕ) where
  kept_by : ((v : ℕ) → v < 257 → (j : ℕ) → 1 ≤ j → j ≤ n → eqb (f j) v ≡ eqb (g j) v) → kept_point n f ≡ kept_point n g
  unfolding kept_point often times
  kept_by h =
      least_same (often n f) (often n g) 257 0 (λ v l.
      ap (λ (k : ℕ). leb (faults n + 1) k) (count_same (λ j. eqb (f j) v) (λ j. eqb (g j) v) n (h v (omega arith))))

  pub kept_same : ((j : ℕ) → 1 ≤ j → j ≤ n → f j ≡ g j) → kept_point n f ≡ kept_point n g
  kept_same h = kept_by (λ v _ j l u. rw (h j l u))

  -- it is the same of the values as they came and of the points that are read from them
  pub kept_unread : ((j : ℕ) → 1 ≤ j → j ≤ n → read_point (f j) ≡ g j) → kept_point n f ≡ kept_point n g
  kept_unread h = kept_by (λ v b j l u. sym (same_point (f j) v b) ∙ rw (h j l u))

-- it is a point or blank: it reads as itself
pub kept_reads : (n : ℕ) (received : ℕ → ℕ) → read_point (kept_point n received) ≡ kept_point n received
unfolding kept_point read_point
kept_reads n received = go (least_one (often n received) 257 0)
  where
    v : ℕ
    v = least (often n received) 257 0

    go : (v < 0 + 257) ⊎ (v ≡ blank) → read_point v ≡ v
    go (inl h) = point_is v (omega arith)
    go (inr e) = rw e refl

-- a point that was received often, and no other was
pub kept_is : (n : ℕ) (received : ℕ → ℕ) (v : ℕ) → v < 257 → T (often n received v) → ((w : ℕ) → w < v → T (often n received w) → ⊥) → kept_point n received ≡ v
unfolding kept_point
kept_is n received v l h f = least_is (often n received) v h f 257 0 (omega arith) (omega arith)

-- the better of the best so far and v
unfoldable pub better : ℕ → (ℕ → ℕ) → ℕ → ℕ → ℕ
better n received best v = cond (ltb (faults n) (weight n received best v)) v best

pub weight_le : (n : ℕ) (received : ℕ → ℕ) (best v : ℕ) → weight n received best v ≤ n
unfolding weight times
weight_le n received best v = go (ltb v best && ltb v 257)
  where
    go : (b : Bool) → cond b (times received v n) 0 ≤ n
    go true = count_le (λ j. eqb (received j) v) n
    go false = omega arith

pub better_is : (n : ℕ) (received : ℕ → ℕ) (best t c v u : ℕ) → t ≡ faults n → c ≡ weight n received best v → v ≡ u → cond (ltb t c) v best ≡ better n received best u
unfolding better
better_is n received best t c v u e f g = rw (e, f, g) refl

module _ (n : ℕ) (received : ℕ → ℕ) where
  pub placed_within : (i : ℕ) → i < n → placed n received i ≡ received (i + 1)
  unfolding placed
  placed_within i h = simp (lt-ltb i n h)

  pub placed_past : (i : ℕ) → n ≤ i → placed n received i ≡ blank
  unfolding placed
  placed_past i h = simp (le-ltb i n h)

  module _ (values : List ℕ) (e : values ≡ list_of (placed n received) 32) (few : n ≤ 32) where
    -- place i is column i + 1's
    pub placed_at : (i z : ℕ) → i < n → get_or values i z ≡ received (i + 1)
    placed_at i z h = rw e (get_d_list_of (placed n received) 32 i z (omega arith)) ∙ placed_within i h

    -- a point stands there as often as it was received: blank is no point
    placed_times : (v : ℕ) → v < 257 → times (from values) v 32 ≡ times received v n
    unfolding times from
    placed_times v b =
        let cut : 32 ≡ 32 - n + n = omega arith in
        ap (λ (k : ℕ). count (λ j. eqb (from values j) v) k) cut
        ∙ count_past (λ j. eqb (from values j) v) n (32 - n) (λ j l u.
        ap (λ (x : ℕ). eqb x v) (rw e (get_d_list_of (placed n received) 32 (j - 1) blank (omega arith)) ∙ placed_past (j - 1) (omega arith)) ∙ ne_eqb blank v (omega arith))
        ∙ count_same (λ j. eqb (from values j) v) (λ j. eqb (received j) v) n (λ j l u.
        let same : j - 1 + 1 ≡ j = omega arith in
        ap (λ (x : ℕ). eqb x v) (placed_at (j - 1) blank (omega arith) ∙ ap received same))

    pub weight_placed : (best v : ℕ) → weight 32 (from values) best v ≡ weight n received best v
    unfolding weight
    weight_placed best v = go (ltb v best) (ltb v 257) refl
      where
        go : (p q : Bool) → ltb v 257 ≡ q → cond (p && q) (times (from values) v 32) 0 ≡ cond (p && q) (times received v n) 0
        go true true l = placed_times v (ltb-true v 257 l)
        go true false l = refl
        go false q l = refl

-- the best of the columns 1 to i, of n
pub record Best (n : ℕ) (received : ℕ → ℕ) (i best : ℕ) : Type 0 where
  pub within : i ≤ n
  pub one : (best ≡ blank) ⊎ ((best < 257) × T (often n received best))
  pub most : best ≤ blank
  pub lowest : (j : ℕ) → 1 ≤ j → j ≤ i → received j < 257 → T (often n received (received j)) → best ≤ received j

pub best_none : (n : ℕ) (received : ℕ → ℕ) → Best n received 0 blank
best_none n received = record { within = omega arith; one = inl refl; most = omega arith; lowest = λ j l u h t. absurd (omega arith) }

pub best_more : (n : ℕ) (received : ℕ → ℕ) (i best r : ℕ) → Best n received i best → i < n → r ≡ better n received best (received (i + 1)) → Best n received (i + 1) r
unfolding better weight often
best_more n received i best r b h e =
    rw e (go (ltb (received (i + 1)) best) (ltb (received (i + 1)) 257) (ltb (faults n) (times received (received (i + 1)) n)) refl refl refl)
  where
    -- the next column too
    next : (x : ℕ) → x ≤ best → (received (i + 1) < 257 → T (often n received (received (i + 1))) → x ≤ received (i + 1))
        → (j : ℕ) → 1 ≤ j → j ≤ i + 1 → received j < 257 → T (often n received (received j)) → x ≤ received j
    next x le f j l u k t = at_most (eq-or-lt_of_le u)
      where
        at_most : (j ≡ i + 1) ⊎ (j < i + 1) → x ≤ received j
        at_most (inl q) = rw q (f (rw q at k) (rw q at t))
        at_most (inr q) = omega (arith, le, b.lowest j l (omega arith) k t)

    stays : (received (i + 1) < 257 → T (often n received (received (i + 1))) → best ≤ received (i + 1)) → Best n received (i + 1) best
    stays f = record { within = omega arith; one = b.one; most = b.most; lowest = next best (omega arith) f }

    none : ltb (faults n) 0 ≡ false
    none = le-ltb (faults n) 0 (omega arith)

    go : (p q s : Bool) → ltb (received (i + 1)) best ≡ p → ltb (received (i + 1)) 257 ≡ q → ltb (faults n) (times received (received (i + 1)) n) ≡ s
        → Best n received (i + 1) (cond (ltb (faults n) (cond (p && q) (times received (received (i + 1)) n) 0)) (received (i + 1)) best)
    go true true true ep eq es =
        let l = ltb-true (received (i + 1)) best ep in
        rw es (record {
          within = omega arith;
          one = inr (ltb-true (received (i + 1)) 257 eq, le→leb (faults n + 1) (times received (received (i + 1)) n) (omega (arith, ltb-true (faults n) (times received (received (i + 1)) n) es)));
          most = omega (arith, b.most);
          lowest = next (received (i + 1)) (omega arith) (λ _ _. omega arith);
        })
    go false q s ep eq es = rw none (stays (λ _ _. ltb-false (received (i + 1)) best ep))
    go true false s ep eq es = rw none (stays (λ l _. absurd (omega (arith, ltb-false (received (i + 1)) 257 eq))))
    go true true false ep eq es =
        rw es (stays (λ _ t.
        absurd (omega (arith, ltb-false (faults n) (times received (received (i + 1)) n) es, leb→le (faults n + 1) (times received (received (i + 1)) n) t))))

-- two values came from different columns
crowd : (received : ℕ → ℕ) (v w n : ℕ) → w < v → times received v n + times received w n ≤ n
unfolding times
crowd received v w n h =
    omega (
      arith,
      count_not (λ j. eqb (received j) v) n,
      mono (λ j. eqb (received j) w) (λ j. not (eqb (received j) v)) n (λ j _ _ t.
          not_T (eqb (received j) v) (λ s. omega (arith, h, eqb→eq (received j) v s, eqb→eq (received j) w t))),
    )

-- a point that all but t columns sent leaves no room for another
pub settled : (n : ℕ) (received : ℕ → ℕ) (best v c : ℕ) → 1 ≤ n → c ≡ weight n received best v → n ≤ c + faults n → v ≡ kept_point n received
unfolding weight often
settled n received best v c l e h = go (ltb v best) (ltb v 257) refl refl (rw e at h)
  where
    few : 3 * faults n < n
    few = omega (arith, faults_fewer n)

    go : (p q : Bool) → ltb v best ≡ p → ltb v 257 ≡ q → n ≤ cond (p && q) (times received v n) 0 + faults n → v ≡ kept_point n received
    go false q ep eq k = absurd (omega (arith, few))
    go true false ep eq k = absurd (omega (arith, few))
    go true true ep eq k =
        sym (kept_is n received v (ltb-true v 257 eq) (le→leb (faults n + 1) (times received v n) (omega (arith, few))) (λ w b t.
        omega (arith, crowd received v w n b, leb→le (faults n + 1) (times received w n) t)))

-- who was received often was received from some column
seen : (n : ℕ) (received : ℕ → ℕ) (w : ℕ) → T (often n received w) → Found (λ j. eqb (received j) w) n
unfolding often times
seen n received w t = find (λ j. eqb (received j) w) n (omega (arith, leb→le (faults n + 1) (count (λ j. eqb (received j) w) n) t))

pub best_done : (n : ℕ) (received : ℕ → ℕ) (i best : ℕ) → Best n received i best → n ≤ i → best ≡ kept_point n received
unfolding kept_point Found
best_done n received i best b h = sym (go b.one)
  where
    lowest : (w : ℕ) → w < 257 → T (often n received w) → best ≤ w
    lowest w l t =
        let (j, a, u, q) = seen n received w t in
        let e = eqb→eq (received j) w q in
        omega (arith, e, b.lowest j a (omega (arith, b.within)) (rw e l) (rw e t))

    go : (best ≡ blank) ⊎ ((best < 257) × T (often n received best)) → least (often n received) 257 0 ≡ best
    go (inl e) = least_none (often n received) 257 0 (λ w _ l t. omega (arith, e, lowest w (omega arith) t)) ∙ sym e
    go (inr (l, t)) = least_is (often n received) best t (λ w k s. omega (arith, lowest w (omega arith) s)) 257 0 (omega arith) (omega arith)
