-- Counting the columns 1 to n. A set of columns is a test, `ℕ → Bool`, and its size is `count P n`.
-- One law does inclusion and exclusion: an inequality between sums of tests that holds for all truth values holds between the
-- counts (`law`, and `law_if` where a condition holds at each column). The others are the uses of it that are wanted by name.
use Rattle.std.specs.Prelude.{◌≡◌, refl, ◌⊎◌, Bool, true, false, not, ◌&&◌, ◌||◌, List, [], ◌∷◌, ℕ, zero, suc, ◌+◌, ◌≤◌, ◌<◌, T, leb, eqb}
use Rattle.std.proofs.Common.{ap, inl, inr, zero-le, suc-le-suc, le_refl, le_trans, not-suc-le-zero, zero-add, suc-add, eq-or-lt_of_le, add-one, arith, leb→le, eqb→eq}
use Rattle.std.proofs.Math.Nat.{le-suc}
use Rattle.std.proofs.Math.Decide.{dec_le}
use Rattle.std.proofs.Math.Dec.{not_T}
use Rattle.lists.specs.Lists.{bit, count}
use Rattle.lists.specs.Tests.{imp, to_imp, from_imp, and_left, and_right, is_true}

pub count_more : (P : ℕ → Bool) (n : ℕ) → count P (n + 1) ≡ bit (P (n + 1)) + count P n
unfolding count
count_more P n = rw add-one

-- every column passes
pub count_all : (n : ℕ) → count (λ i. true) n ≡ n
unfolding count
count_all zero = refl
count_all (suc n) = omega (arith, count_all n)

-- SUMS OF TESTS

-- the sum of a list of tests at a column, and of their counts
abbrev pub bits : List (ℕ → Bool) → ℕ → ℕ
bits [] i = 0
bits (P ∷ Ps) i = bit (P i) + bits Ps i

abbrev pub counts : List (ℕ → Bool) → ℕ → ℕ
counts [] n = 0
counts (P ∷ Ps) n = count P n + counts Ps n

counts_zero : (Ps : List (ℕ → Bool)) → counts Ps 0 ≡ 0
unfolding count
counts_zero [] = refl
counts_zero (P ∷ Ps) = omega (arith, counts_zero Ps)

counts_suc : (Ps : List (ℕ → Bool)) (n : ℕ) → counts Ps (suc n) ≡ bits Ps (suc n) + counts Ps n
unfolding count
counts_suc [] n = refl
counts_suc (P ∷ Ps) n = omega (arith, counts_suc Ps n)

-- what holds between the sums at each column holds between the counts
weigh : (Ps Qs : List (ℕ → Bool)) (n : ℕ) → ((i : ℕ) → 1 ≤ i → i ≤ n → bits Ps i ≤ bits Qs i) → counts Ps n ≤ counts Qs n
weigh Ps Qs zero h = omega (arith, counts_zero Ps)
weigh Ps Qs (suc n) h =
    omega (arith, counts_suc Ps n, counts_suc Qs n, h (suc n) (suc-le-suc zero-le) (le_refl (suc n)), weigh Ps Qs n (λ i l u. h i l (le_trans u (le-suc n))))

-- A COMPUTED TEST OF ALL TRUTH VALUES

-- a Boolean function of as many arguments as there are tests, and its value at a column
abbrev pub Fn : List (ℕ → Bool) → Type 0
Fn [] = Bool
Fn (X ∷ Xs) = Bool → Fn Xs

abbrev pub app : (Xs : List (ℕ → Bool)) → Fn Xs → ℕ → Bool
app [] f i = f
app (X ∷ Xs) f i = app Xs (f (X i)) i

abbrev pub apps : (Xs : List (ℕ → Bool)) → List (Fn Xs) → List (ℕ → Bool)
apps Xs [] = []
apps Xs (f ∷ fs) = app Xs f ∷ apps Xs fs

abbrev pub give : {A : Type 0} → Bool → List (Bool → A) → List A
give b [] = []
give b (f ∷ fs) = f b ∷ give b fs

abbrev pub total : List Bool → ℕ
total [] = 0
total (b ∷ bs) = bit b + total bs

-- where the condition c holds, the sum of the fs is at most that of the gs, whatever the tests say
abbrev pub holds : (Xs : List (ℕ → Bool)) → Fn Xs → List (Fn Xs) → List (Fn Xs) → Bool
holds [] c fs gs = imp c (leb (total fs) (total gs))
holds (X ∷ Xs) c fs gs = holds Xs (c true) (give true fs) (give true gs) && holds Xs (c false) (give false fs) (give false gs)

give_apps : (X : ℕ → Bool) (Xs : List (ℕ → Bool)) (fs : List (Bool → Fn Xs)) (i : ℕ) → bits (apps (X ∷ Xs) fs) i ≡ bits (apps Xs (give (X i) fs)) i
give_apps X Xs [] i = refl
give_apps X Xs (f ∷ fs) i = ap (λ (z : ℕ). bit (app Xs (f (X i)) i) + z) (give_apps X Xs fs i)

total_bits : (bs : List Bool) (i : ℕ) → bits (apps [] bs) i ≡ total bs
total_bits [] i = refl
total_bits (b ∷ bs) i = ap (λ (z : ℕ). bit b + z) (total_bits bs i)

half : (X : ℕ → Bool) (Xs : List (ℕ → Bool)) (c : Bool → Fn Xs) (fs gs : List (Bool → Fn Xs)) → T (holds (X ∷ Xs) c fs gs) → (b : Bool) → T (holds Xs (c b) (give b fs) (give b gs))
half X Xs c fs gs t true = and_left (holds Xs (c true) (give true fs) (give true gs)) (holds Xs (c false) (give false fs) (give false gs)) t
half X Xs c fs gs t false = and_right (holds Xs (c true) (give true fs) (give true gs)) (holds Xs (c false) (give false fs) (give false gs)) t

at_column : (Xs : List (ℕ → Bool)) (c : Fn Xs) (fs gs : List (Fn Xs)) → T (holds Xs c fs gs) → (i : ℕ) → T (app Xs c i) → bits (apps Xs fs) i ≤ bits (apps Xs gs) i
at_column [] c fs gs t i h = rw (total_bits fs i, total_bits gs i) (leb→le (total fs) (total gs) (from_imp c (leb (total fs) (total gs)) t h))
at_column (X ∷ Xs) c fs gs t i h =
    rw (give_apps X Xs fs i, give_apps X Xs gs i) (at_column Xs (c (X i)) (give (X i) fs) (give (X i) gs) (half X Xs c fs gs t (X i)) i h)

-- THE COUNTING LAW. Xs are the tests, c a condition on them that holds at each column, fs and gs functions of them; the proof of
-- the inequality for all truth values is `tt`, since it computes.
pub law_if : (Xs : List (ℕ → Bool)) (c : Fn Xs) (fs gs : List (Fn Xs)) (n : ℕ) → T (holds Xs c fs gs)
    → ((i : ℕ) → 1 ≤ i → i ≤ n → T (app Xs c i)) → counts (apps Xs fs) n ≤ counts (apps Xs gs) n
law_if Xs c fs gs n t h = weigh (apps Xs fs) (apps Xs gs) n (λ i l u. at_column Xs c fs gs t i (h i l u))

abbrev pub always : (Xs : List (ℕ → Bool)) → Fn Xs
always [] = true
always (X ∷ Xs) = λ b. always Xs

app_always : (Xs : List (ℕ → Bool)) (i : ℕ) → T (app Xs (always Xs) i)
app_always [] i = tt
app_always (X ∷ Xs) i = app_always Xs i

pub law : (Xs : List (ℕ → Bool)) (fs gs : List (Fn Xs)) (n : ℕ) → T (holds Xs (always Xs) fs gs) → counts (apps Xs fs) n ≤ counts (apps Xs gs) n
law Xs fs gs n t = law_if Xs (always Xs) fs gs n t (λ i l u. app_always Xs i)

-- ITS USES

-- what passes P passes Q
pub mono : (P Q : ℕ → Bool) (n : ℕ) → ((i : ℕ) → 1 ≤ i → i ≤ n → T (P i) → T (Q i)) → count P n ≤ count Q n
mono P Q n h = omega (arith, law_if (P ∷ Q ∷ []) imp ((λ p q. p) ∷ []) ((λ p q. q) ∷ []) n tt (λ i l u. to_imp (P i) (Q i) (h i l u)))

-- what passes P and not Q passes S
pub cover : (P Q S : ℕ → Bool) (n : ℕ) → ((i : ℕ) → 1 ≤ i → i ≤ n → T (P i) → T (not (Q i)) → T (S i)) → count P n ≤ count Q n + count S n
cover P Q S n h =
    omega (
      arith,
      law_if (P ∷ Q ∷ S ∷ []) (λ p q s. imp p (q || s)) ((λ p q s. p) ∷ []) ((λ p q s. q) ∷ (λ p q s. s) ∷ []) n tt
          (λ i l u. to (P i) (Q i) (S i) (h i l u)),
    )
  where
    to : (p q s : Bool) → (T p → T (not q) → T s) → T (imp p (q || s))
    to true true s f = tt
    to true false s f = f tt tt
    to false q s f = tt

-- nothing passes
pub none : (P : ℕ → Bool) (n : ℕ) → ((i : ℕ) → 1 ≤ i → i ≤ n → T (P i) → ⊥) → count P n ≡ 0
none P n h = omega (arith, law_if (P ∷ []) not ((λ p. p) ∷ []) [] n tt (λ i l u. not_T (P i) (h i l u)))

-- what passes and what fails are all
pub count_not : (P : ℕ → Bool) (n : ℕ) → count P n + count (λ i. not (P i)) n ≡ n
count_not P n =
    omega (
      arith,
      count_all n,
      law (P ∷ []) ((λ p. p) ∷ (λ p. not p) ∷ []) ((λ p. true) ∷ []) n tt,
      law (P ∷ []) ((λ p. true) ∷ []) ((λ p. p) ∷ (λ p. not p) ∷ []) n tt,
    )

pub count_le : (P : ℕ → Bool) (n : ℕ) → count P n ≤ n
count_le P n = omega (arith, count_not P n)

-- tests that agree at each column have one count
pub count_same : (P Q : ℕ → Bool) (n : ℕ) → ((i : ℕ) → 1 ≤ i → i ≤ n → P i ≡ Q i) → count P n ≡ count Q n
count_same P Q n h = omega (arith, mono P Q n (λ i l u t. rw (h i l u) at t), mono Q P n (λ i l u t. rw (h i l u) t))

-- FINDING A COLUMN

-- a column that passes
unfoldable pub Found : (ℕ → Bool) → ℕ → Type 0
Found P n = (i : ℕ) × (1 ≤ i) × (i ≤ n) × T (P i)

-- a column that passes is counted
pub count_pos : (P : ℕ → Bool) (n i : ℕ) → 1 ≤ i → i ≤ n → T (P i) → 1 ≤ count P n
unfolding count
count_pos P zero i l u h = absurd (omega arith)
count_pos P (suc n) i l u h = go (eq-or-lt_of_le u) (count_pos P n i l)
  where
    go : (i ≡ suc n) ⊎ (i < suc n) → (i ≤ n → T (P i) → 1 ≤ count P n) → 1 ≤ bit (P (suc n)) + count P n
    go (inl e) f = omega (arith, ap bit (is_true (P (suc n)) (rw e at h)))
    go (inr m) f = omega (arith, f (omega arith) h)

-- the lowest-numbered one
abbrev pub First : (ℕ → Bool) → ℕ → Type 0
First P n = (i : ℕ) × (1 ≤ i) × (i ≤ n) × T (P i) × ((j : ℕ) → 1 ≤ j → T (P j) → i ≤ j)

pub first : (P : ℕ → Bool) (n : ℕ) → 1 ≤ count P n → First P n
unfolding count
first P zero h = absurd (not-suc-le-zero h)
first P (suc n) h = go (dec_le 1 (count P n)) (P (suc n)) refl (first P n)
  where
    go : Dec (1 ≤ count P n) → (b : Bool) → P (suc n) ≡ b → (1 ≤ count P n → First P n) → First P (suc n)
    go (yes l) b e rest = let r = rest l in (r.0, r.1, le_trans r.2 (le-suc n), r.3, r.4)
    go (no l) true e rest = (suc n, suc-le-suc zero-le, le_refl (suc n), rw e tt, λ j low t. behind j low t (dec_le (suc n) j))
      where
        behind : (j : ℕ) → 1 ≤ j → T (P j) → Dec (suc n ≤ j) → suc n ≤ j
        behind j low t (yes u) = u
        behind j low t (no u) = absurd (l (count_pos P n j low (omega arith) t))
    go (no l) false e rest = absurd (omega (arith, ap bit e))

pub find : (P : ℕ → Bool) (n : ℕ) → 1 ≤ count P n → Found P n
unfolding Found
find P n h = let r = first P n h in (r.0, r.1, r.2, r.3)

-- more columns pass P than Q, so one passes P and not Q
pub pigeon : (P Q : ℕ → Bool) (n : ℕ) → count Q n < count P n → Found (λ i. P i && not (Q i)) n
pigeon P Q n h = find _ n (omega (arith, law (P ∷ Q ∷ []) ((λ p q. p) ∷ []) ((λ p q. q) ∷ (λ p q. p && not q) ∷ []) n tt))

-- a number is the number of one column at most
pub count_one : (r n : ℕ) → count (λ i. eqb i r) n ≤ 1
unfolding count
count_one r zero = zero-le
count_one r (suc n) = go (eqb (suc n) r) refl (count_one r n)
  where
    go : (b : Bool) → eqb (suc n) r ≡ b → count (λ i. eqb i r) n ≤ 1 → bit (eqb (suc n) r) + count (λ i. eqb i r) n ≤ 1
    go true e ih =
        let here : suc n ≡ r = eqb→eq (suc n) r (rw e tt) in
        omega (arith, ap bit e, none (λ i. eqb i r) n (λ i l u t. omega (arith, eqb→eq i r t)))
    go false e ih = omega (arith, ap bit e)

-- more columns, more that pass
pub longer : (P : ℕ → Bool) (m k : ℕ) → count P m ≤ count P (k + m)
unfolding count
longer P m zero = rw zero-add (le_refl (count P m))
longer P m (suc k) = rw suc-add (omega (arith, longer P m k))

-- columns past n that do not pass add nothing
pub count_past : (P : ℕ → Bool) (n k : ℕ) → ((j : ℕ) → n < j → j ≤ k + n → P j ≡ false) → count P (k + n) ≡ count P n
unfolding count
count_past P n zero f = rw zero-add refl
count_past P n (suc k) f =
    rw suc-add (omega (arith, ap bit (f (suc (k + n)) (omega arith) (omega arith)), count_past P n k (λ j l u. f j l (omega arith))))
