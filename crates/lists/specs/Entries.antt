-- Laws of `all`, `sum` and `list_of`.
use Rattle.std.specs.Prelude.{◌≡◌, Bool, true, false, ◌&&◌, length, take, drop, get_or, set, T, eqb}
use Rattle.std.proofs.Math.Path.{refl, ap₂}
use Rattle.std.proofs.Common.{sym, ◌∙◌, eq-or-lt_of_le, le_of_suc-le-suc, le_refl, le_trans, suc-mul, add-suc, add-one, arith, length-set, drop_of_length-le, get_or-set_same, get_or-set_other, ext_get_or, eqb→eq}
use mathlib.Core.List.{List, [], ◌∷◌, ◌++◌, append_assoc, append-nil}
use Rattle.std.proofs.Math.Logic.{⊎_elim}
use Prim.Native.Nat.{ℕ, zero, suc, ◌+◌, ◌*◌, ◌≤◌, ◌<◌}
use Rattle.std.proofs.Math.Nat.{le-suc, add-zero}
use Rattle.std.proofs.Math.Decide.{dec_lt}
use Rattle.std.proofs.Math.ListN.{length-append, get_or-append, get_or-eq_default}
use Rattle.std.proofs.Math.Seq.{drop-cons, set_at, get_or-append_seam}
use Rattle.std.proofs.Math.Dec.{eqb_refl}
use Rattle.lists.specs.Lists.{all, sum, Below, same, list_of}
use Rattle.lists.specs.Tests.{and_left, and_right, and_both}

-- ALL

both_false : (a : Bool) → a && false ≡ false
both_false true = refl
both_false false = refl

pub all_none : (P : ℕ → Bool) → all P 0 ≡ true
unfolding all
all_none P = refl

pub all_more : (P : ℕ → Bool) (i : ℕ) → all P i ≡ true → P i ≡ true → all P (i + 1) ≡ true
unfolding all
all_more P i h t = rw (add-one, h) t

pub all_next : (P : ℕ → Bool) (i : ℕ) → all P (i + 1) ≡ all P i && P i
unfolding all
all_next P i = rw add-one

-- what all pass, each passes, and the other way round
pub all_each : (P : ℕ → Bool) (n : ℕ) → T (all P n) → (i : ℕ) → i < n → T (P i)
unfolding all
all_each P zero t i l = absurd (omega arith)
all_each P (suc n) t i l =
    ⊎_elim (λ (e : i ≡ n). rw e (and_right (all P n) (P n) t)) (λ k. all_each P n (and_left (all P n) (P n) t) i k) (eq-or-lt_of_le (le_of_suc-le-suc l))

pub each_all : (P : ℕ → Bool) (n : ℕ) → ((i : ℕ) → i < n → T (P i)) → T (all P n)
unfolding all
each_all P zero h = tt
each_all P (suc n) h = and_both (all P n) (P n) (each_all P n (λ i l. h i (le_trans l (le-suc n)))) (h n (le_refl (suc n)))

-- one that fails, and not all pass
pub all_fails : (P : ℕ → Bool) (n i : ℕ) → i < n → P i ≡ false → all P n ≡ false
unfolding all
all_fails P zero i h t = absurd (omega arith)
all_fails P (suc n) i h t =
    ⊎_elim (λ (e : i ≡ n). rw (rw e at t) (both_false (all P n))) (λ l. rw (all_fails P n i l t) refl) (eq-or-lt_of_le (le_of_suc-le-suc h))

-- tests that agree at each number
pub all_same : (P Q : ℕ → Bool) (n : ℕ) → ((i : ℕ) → i < n → P i ≡ Q i) → all P n ≡ all Q n
unfolding all
all_same P Q zero h = refl
all_same P Q (suc n) h = ap₂ {C = Bool} (λ a b. a && b) (all_same P Q n (λ i l. h i (le_trans l (le-suc n)))) (h n (le_refl (suc n)))

-- SUM

pub sum_more : (f : ℕ → ℕ) (n : ℕ) → sum f (n + 1) ≡ sum f n + f (n + 1)
unfolding sum
sum_more f n = rw add-one

-- the first summand in front
pub sum_front : (f : ℕ → ℕ) (n : ℕ) → sum f (suc n) ≡ f 1 + sum (λ i. f (suc i)) n
unfolding sum
sum_front f zero = omega arith
sum_front f (suc n) = omega (arith, sum_front f n)

pub sum_same : (f g : ℕ → ℕ) (n : ℕ) → ((i : ℕ) → 1 ≤ i → i ≤ n → f i ≡ g i) → sum f n ≡ sum g n
unfolding sum
sum_same f g zero h = refl
sum_same f g (suc n) h = ap₂ {C = ℕ} (λ a b. a + b) (sum_same f g n (λ i l u. h i l (le_trans u (le-suc n)))) (h (suc n) (omega arith) (le_refl (suc n)))

-- of small summands
pub sum_le : (f : ℕ → ℕ) (b n : ℕ) → ((i : ℕ) → f i ≤ b) → sum f n ≤ n * b
unfolding sum
sum_le f b zero h = omega arith
sum_le f b (suc n) h = omega (arith, suc-mul n b, sum_le f b n h, h (suc n))

-- EQUAL LISTS

pub same_eq : (r s : List ℕ) → T (same r s) → r ≡ s
unfolding same
same_eq [] [] t = refl
same_eq [] (y ∷ ys) t = absurd t
same_eq (x ∷ xs) [] t = absurd t
same_eq (x ∷ xs) (y ∷ ys) t =
    ap₂ {C = List ℕ} (λ a as'. a ∷ as') (eqb→eq x y (and_left (eqb x y) (same xs ys) t)) (same_eq xs ys (and_right (eqb x y) (same xs ys) t))

pub same_refl : (r : List ℕ) → T (same r r)
unfolding same
same_refl [] = tt
same_refl (x ∷ xs) = and_both (eqb x x) (same xs xs) (eqb_refl x) (same_refl xs)

-- LISTS BY AN INDEX FUNCTION

module _ {ℓ} {A : Type ℓ} where
  pub length_list_of : (f : ℕ → A) (n : ℕ) → length (list_of f n) ≡ n
  unfolding list_of
  length_list_of f zero = refl
  length_list_of f (suc n) = length-append (list_of f n) (f n ∷ []) ∙ omega (arith, length_list_of f n)

  pub get_d_list_of : (f : ℕ → A) (n i : ℕ) (z : A) → i < n → get_or (list_of f n) i z ≡ f i
  unfolding list_of
  get_d_list_of f zero i z h = absurd (omega arith)
  get_d_list_of f (suc n) i z h =
      ⊎_elim (λ (e : i ≡ n). rw e (rw length_list_of at (get_or-append_seam (list_of f n) (f n) [] z)))
      (λ (l : i < n). get_or-append (list_of f n) (f n ∷ []) z i (omega (arith, length_list_of f n)) ∙ get_d_list_of f n i z l)
      (eq-or-lt_of_le (le_of_suc-le-suc h))

  pub list_of_same : (f g : ℕ → A) (n : ℕ) → ((i : ℕ) → i < n → f i ≡ g i) → list_of f n ≡ list_of g n
  unfolding list_of
  list_of_same f g zero h = refl
  list_of_same f g (suc n) h = ap₂ {C = List A} (λ xs x. xs ++ (x ∷ [])) (list_of_same f g n (λ i l. h i (le_trans l (le-suc n)))) (h n (le_refl (suc n)))

  -- within the list no default is read
  pub get_d_within : (l : List A) (i : ℕ) (a b : A) → i < length l → get_or l i a ≡ get_or l i b
  get_d_within [] i a b h = absurd (omega arith)
  get_d_within (x ∷ l) zero a b h = refl
  get_d_within (x ∷ l) (suc i) a b h = get_d_within l i a b (le_of_suc-le-suc h)

  -- a list of n entries is the list of its entries
  pub list_of_get_d : (l : List A) (n : ℕ) (z : A) → length l ≡ n → list_of (λ i. get_or l i z) n ≡ l
  list_of_get_d l n z e =
      ext_get_or z (list_of (λ i. get_or l i z) n) l (length_list_of (λ i. get_or l i z) n ∙ sym e) (λ i h.
      get_d_list_of (λ i. get_or l i z) n i z (omega (arith, length_list_of (λ i. get_or l i z) n)))

  -- one entry is set to that of another function, which has the other entries too
  pub list_of_set : (f g : ℕ → A) (n a : ℕ) (v : A) → a < n → v ≡ g a → ((i : ℕ) → i < n → (i ≡ a → ⊥) → f i ≡ g i) → set (list_of f n) a v ≡ list_of g n
  list_of_set f g n a v l e h =
      ext_get_or v (set (list_of f n) a v) (list_of g n) (length-set (list_of f n) a v ∙ length_list_of f n ∙ sym (length_list_of g n)) (λ i u.
      at i (omega (arith, length-set (list_of f n) a v, length_list_of f n)) (dec_lt i a) (dec_lt a i))
    where
      other : (i : ℕ) → i < n → (i ≡ a → ⊥) → get_or (set (list_of f n) a v) i v ≡ get_or (list_of g n) i v
      other i u q = get_or-set_other (list_of f n) a i v v q ∙ get_d_list_of f n i v u ∙ h i u q ∙ sym (get_d_list_of g n i v u)

      at : (i : ℕ) → i < n → Dec (i < a) → Dec (a < i) → get_or (set (list_of f n) a v) i v ≡ get_or (list_of g n) i v
      at i u (yes q) r = other i u (λ s. omega arith)
      at i u (no q) (yes r) = other i u (λ s. omega arith)
      at i u (no q) (no r) =
          let s : i ≡ a = omega arith in
          rw s (get_or-set_same (list_of f n) a v v (omega (arith, length_list_of f n)) ∙ e ∙ sym (get_d_list_of g n a v l))

  -- a list in two parts
  pub list_of_cut : (f : ℕ → A) (a b : ℕ) → list_of f (a + b) ≡ list_of f a ++ list_of (λ i. f (a + i)) b
  unfolding list_of
  list_of_cut f a zero = rw add-zero (sym (append-nil (list_of f a)))
  list_of_cut f a (suc b) = rw (add-suc, list_of_cut f a b) (append_assoc (list_of f a) (list_of (λ i. f (a + i)) b) (f (a + b) ∷ []))

  pub list_of_none : (f : ℕ → A) (d : List A) → d ≡ list_of f 0 ++ drop 0 d
  unfolding list_of
  list_of_none f d = refl

  -- one store of a loop that fills a list from the front
  pub list_of_more : (f : ℕ → A) (i : ℕ) (d : List A) → i < length d → set (list_of f i ++ drop i d) i (f i) ≡ list_of f (i + 1) ++ drop (i + 1) d
  unfolding list_of
  list_of_more f i d h =
      rw (add-one, drop-cons d i (f i) h, set_at (list_of f i) (get_or d i (f i)) (drop (suc i) d) (f i) i (length_list_of f i), append_assoc) refl

  pub list_of_done : (f : ℕ → A) (n : ℕ) (d : List A) → length d ≤ n → list_of f n ++ drop n d ≡ list_of f n
  list_of_done f n d h = rw (drop_of_length-le d h) (append-nil (list_of f n))

-- a list of small entries
pub below_list_of : (b : ℕ) (f : ℕ → ℕ) (n : ℕ) → 0 < b → ((i : ℕ) → f i < b) → Below b (list_of f n)
below_list_of b f n p h i = go (dec_lt i n)
  where
    go : Dec (i < n) → get_or (list_of f n) i 0 < b
    go (yes l) = rw (get_d_list_of f n i 0 l) (h i)
    go (no l) = rw (get_or-eq_default (list_of f n) 0 {n = i} (omega (arith, length_list_of f n))) p

-- and the front of one
pub below_take : (b k : ℕ) (l : List ℕ) → 0 < b → Below b l → Below b (take k l)
below_take b zero l p h i = p
below_take b (suc k) [] p h i = p
below_take b (suc k) (x ∷ l) p h zero = h 0
below_take b (suc k) (x ∷ l) p h (suc i) = below_take b k l p (λ j. h (suc j)) i
