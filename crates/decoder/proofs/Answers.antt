-- Why each answer that the code gives is the definition's.
use Rattle.std.specs.Prelude.{◌≡◌, refl, Bool, not, ◌&&◌, ℕ, suc, ◌+◌, ◌-◌, ◌*◌, ◌≤◌, ◌<◌, eqb, ltb, leb, length, get_or}
use Rattle.std.proofs.Math.Path.{sym, ap}
use Rattle.std.proofs.Common.{◌∙◌, mul_comm, mul-zero, lt→ltb, le→leb}
use mathlib.Core.List.{List, [], ◌∷◌, map}
use Rattle.std.proofs.Math.Nat.{mod-eq_of_lt}
use Rattle.std.proofs.Math.Decide.{dec_le}
use native.Mathlib.Omega.{arith}
use Rattle.std.proofs.Math.Dec.{T, T_not, eqb→eq, ltb→lt}
use Rattle.std.proofs.lemmas.List.{length-map}
use Rattle.lists.specs.Lists.{count}
use Rattle.lists.specs.Tests.{and_left, and_right, and_both, eq→eqb}
use Rattle.lists.specs.Count.{mono, cover, longer, count_same}
use Rattle.field.specs.Field.{of}
use Rattle.field.specs.Congruence.{◌≋◌}
use Rattle.field.specs.Laws.{cancel}
use Rattle.block.specs.Block.{value, meet}
use Rattle.block.proofs.Values.{value_lt}
use Rattle.block.proofs.Algebra.{product, value_product, length_product, same_values}
use Rattle.sizes.specs.Sizes.{faults, degree}
use Rattle.locator.specs.Locator.{located}
use Rattle.locator.specs.Located.{Locates, present, locates}
use Rattle.messages.specs.Messages.{said, from as at}
use Rattle.decoder.specs.Decoder.{meets_at, hits, IsAnswer, through, coefficients, decoded, four}
use Rattle.decoder.specs.Interpolation.{Rising, On, map_on, through_on, through_length, through_below}
use Rattle.decoder.specs.Exactly.{Accepts}
use Rattle.decoder.proofs.Exactly.{sizes, is_answer, no_answer}
use Rattle.decoder.specs.Places.{present_at, usable, Chain, Chosen, chain_chosen}
use Rattle.decoder.specs.declared.Coefficients.{Coefficients}
use Rattle.decoder.specs.Decoder.{Polynomial, Nothing}
use Rattle.decoder.specs.Answers.{Through, Candidate}

-- FOUR COEFFICIENTS FOR AT MOST FOUR

value_four : (f : List ℕ) (x : ℕ) → length f ≤ 4 → value (four (coefficients f)) x ≡ value f x
unfolding value
value_four [] x h = simp mul-zero
value_four (a ∷ []) x h = simp mul-zero
value_four (a ∷ b ∷ []) x h = simp mul-zero
value_four (a ∷ b ∷ c ∷ []) x h = simp mul-zero
value_four (a ∷ b ∷ c ∷ d ∷ []) x h = refl
value_four (a ∷ b ∷ c ∷ d ∷ e ∷ f) x h = absurd (omega arith)

hits_four : (f : List ℕ) (y : ℕ → ℕ) (n : ℕ) → length f ≤ 4 → hits (four (coefficients f)) y n ≡ hits f y n
hits_four f y n h = count_same (meets_at (four (coefficients f)) y) (meets_at f y) n (λ i l u. ap (λ (z : ℕ). eqb z (y i)) (value_four f i h))

module _ (n : ℕ) (points : List ℕ) (a : Accepts n points) where
  -- A POLYNOMIAL THROUGH SOME POINTS THAT MEETS ENOUGH OF THEM

  pub met : (xs : List ℕ) (k : ℕ) (c : Coefficients) → k ≡ degree n + 1 → Through points xs k c → n - faults n ≤ hits (four c) (at points) n
      → Polynomial c ≡ decoded n points
  met xs k c ek p h =
      let f : List ℕ = through xs (map (at points) xs) in
      let l : length f ≡ length xs = through_length xs (map (at points) xs) (sym (length-map xs (at points))) in
      ap Polynomial p.is
      ∙ sym (is_answer n points a f (record {
        size = l ∙ p.size ∙ ek;
        small = through_below xs (map (at points) xs);
        meets = omega (arith, hits_four f (at points) n (omega (arith, p.size, (sizes n points a).degree_high)), ap (λ (c : Coefficients). hits (four c) (at points) n) p.is);
      }))

  -- and one through points that an answer meets is that answer, and does
  pub meets_too : (xs : List ℕ) (k : ℕ) (c : Coefficients) (f : List ℕ) → Through points xs k c → IsAnswer n points f → through xs (map (at points) xs) ≡ f
      → n - faults n ≤ hits (four c) (at points) n
  meets_too xs k c f p i same =
      omega (
        arith,
        i.meets,
        hits_four f (at points) n (omega (arith, i.size, (sizes n points a).degree_high)),
        ap (λ (c : Coefficients). hits (four c) (at points) n) (p.is ∙ ap (λ (g : List ℕ). coefficients g) same),
      )

  -- TOO FEW POINTS

  pub too_few : count (present_at points) n < n - faults n → Nothing ≡ decoded n points
  too_few h =
      sym (no_answer n points a (λ f i.
      omega (
        arith,
        i.meets,
        mono (meets_at f (at points)) (present_at points) n (λ x l u m.
            lt→ltb (at points x) 257 (omega (arith, value_lt f x, eqb→eq (value f x) (at points x) m))),
      )))

  -- THE LOCATOR'S PLACES: where f is an answer, it meets every usable point, and there are enough of them

  module _ (es : List ℕ) (loc : Locates n (faults n) points es) (f : List ℕ) (i : IsAnswer n points f) where
    fits : (x : ℕ) → 1 ≤ x → x ≤ n → at points x < 257 → value loc.q x ≋ at points x * value loc.e x
    unfolding at said
    fits x l u h =
        let e : x - 1 + 1 ≡ x = omega arith in
        rw e at (loc.fits (x - 1) (omega arith) h)

    where_met : (x : ℕ) → 1 ≤ x → x ≤ n → T (meets_at f (at points) x) → T (meet loc.q (product f loc.e) x)
    where_met x l u m =
        let e : value f x ≡ at points x = eqb→eq (value f x) (at points x) m in
        eq→eqb _ _ (sym (mod-eq_of_lt (value_lt loc.q x)) ∙ fits x l u (omega (arith, value_lt f x)) ∙ ap (λ (z : ℕ). of (z * value loc.e x)) (sym e)
        ∙ sym (value_product f loc.e x) ∙ mod-eq_of_lt (value_lt (product f loc.e) x))

    -- q = f e
    one_product : (x : ℕ) → value loc.q x ≡ value (product f loc.e) x
    one_product =
        same_values (n - faults n) n loc.q (product f loc.e) (omega (arith, a.high)) loc.q_size
        (omega (arith, length_product f loc.e, i.size, loc.e_size, (sizes n points a).degree_few, (sizes n points a).faults_low, (sizes n points a).faults_few))
        (omega (arith, i.meets, mono (meets_at f (at points)) (meet loc.q (product f loc.e)) n where_met))

    zero_at : ℕ → Bool
    zero_at x = eqb (value loc.e x) 0

    -- e has at most t zeros
    few_zeros : count zero_at n ≤ faults n
    unfolding zero_at value
    few_zeros = go (dec_le (faults n + 1) (count zero_at n))
      where
        go : Dec (faults n + 1 ≤ count zero_at n) → count zero_at n ≤ faults n
        go (no h) = omega arith
        go (yes h) =
            let none : value loc.e 0 ≡ 0 = same_values (faults n + 1) n loc.e [] (omega (arith, a.high)) loc.e_size (omega arith) h 0 in
            absurd (loc.not_zero none (one_product 0 ∙ sym (mod-eq_of_lt (value_lt (product f loc.e) 0)) ∙ value_product f loc.e 0 ∙ rw none (omega arith)))

    -- the value of e at a usable place
    locator_at : (x : ℕ) → 1 ≤ x → x ≤ n → get_or es (x - 1) 0 ≡ value loc.e x
    locator_at x l u =
        let e : x - 1 + 1 ≡ x = omega arith in
        rw e at (loc.e_values (x - 1) (omega arith))

    agrees : (x : ℕ) → 1 ≤ x → T (usable points es x) → at points x ≡ value f x
    unfolding at said
    agrees x l t =
        let h : at points x < 257 = ltb→lt (at points x) 257 (and_left (ltb (at points x) 257) (not (eqb (get_or es (x - 1) 0) 0)) t) in
        let u : x ≤ n = omega (arith, present points (x - 1) h, a.full) in
        let nz : value loc.e x ≡ 0 → ⊥ = λ z.
        T_not (eqb (get_or es (x - 1) 0) 0) (and_right (ltb (at points x) 257) (not (eqb (get_or es (x - 1) 0) 0)) t) (eq→eqb (get_or es (x - 1) 0) 0 (locator_at x l u ∙ z)) in
        sym (mod-eq_of_lt h)
        ∙ cancel (value loc.e x) (at points x) (value f x) (omega (arith, nz)) (value_lt loc.e x)
        (ap of (mul_comm (value loc.e x) (at points x)) ∙ sym (fits x l u h) ∙ ap of (one_product x) ∙ value_product f loc.e x ∙ ap of (mul_comm (value f x) (value loc.e x)))
        ∙ mod-eq_of_lt (value_lt f x)

    from_one : ℕ → Bool
    from_one x = leb 1 x && usable points es x

    enough_usable : degree n + 1 ≤ count from_one 32
    unfolding zero_at from_one
    enough_usable =
        let all : 32 - n + n ≡ 32 = omega (arith, a.high) in
        let more : count from_one n ≤ count from_one 32 = rw all at (longer from_one n (32 - n)) in
        omega (arith, i.meets, few_zeros, more, (sizes n points a).room, cover (meets_at f (at points)) zero_at from_one n good)
      where
        good : (x : ℕ) → 1 ≤ x → x ≤ n → T (meets_at f (at points) x) → T (not (zero_at x)) → T (from_one x)
        good x l u m z =
            and_both (leb 1 x) (usable points es x) (le→leb 1 x l)
            (and_both (ltb (at points x) 257) (not (eqb (get_or es (x - 1) 0) 0)) (lt→ltb (at points x) 257 (omega (arith, value_lt f x, eqb→eq (value f x) (at points x) m)))
            (rw (locator_at x l u) z))

    -- so the polynomial through the first usable places is f
    only : (xs : List ℕ) → Chain (usable points es) 1 xs → length xs ≡ degree n + 1 → through xs (map (at points) xs) ≡ f
    unfolding from_one
    only xs chain e =
        let chosen = chain_chosen (usable points es) xs 1 chain (omega (arith, enough_usable)) in
        rw (map_on xs (at points) f (on 1 xs (omega arith) chosen.0 chosen.1)) (through_on xs f 1 (i.size ∙ sym e) i.small chosen.1)
      where
        on : (b : ℕ) (xs : List ℕ) → 1 ≤ b → Chosen (usable points es) xs → Rising b xs → On xs (at points) f
        on b [] l c r = tt
        on b (x ∷ xs) l c r = (agrees x (omega arith) c.1, on (suc x) xs (omega arith) c.2 r.2)

  pub none_left : (es : List ℕ) (k : ℕ) (c : Coefficients) → k ≡ degree n + 1 → Locates n (faults n) points es → Candidate points es k c
      → hits (four c) (at points) n < n - faults n → Nothing ≡ decoded n points
  none_left es k c ek loc p h =
      sym (no_answer n points a (λ f i.
      omega (arith, meets_too p.xs k c f p.goes i (only es loc f i p.xs p.chain (p.goes.size ∙ ek)))))

  -- the locator of the code
  pub code_locates : (w : ℕ) (es : List ℕ) → w ≡ n - 2 * faults n - 1 → es ≡ located w points → Locates n (faults n) points es
  code_locates w es ew ee = rw (ee, ew) (locates n (faults n) points (omega (arith, a.high)) (omega (arith, (sizes n points a).room)) (omega (arith, a.full)))
