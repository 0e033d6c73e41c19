-- From the decoder's answers to the record, as the code goes.
use Rattle.std.specs.Prelude.{◌≡◌, Option, Some, None, Bool, false, not, ℕ, ◌+◌, ◌*◌, ◌/◌, ◌%◌, ◌≤◌, ◌<◌, ltb, length, take, drop, set}
use Rattle.std.proofs.Math.Path.{refl, sym, ap, fun_ext}
use Rattle.std.proofs.Common.{subst, ◌∙◌, div-lt_iff_lt-mul, get_or-take}
use Rattle.std.proofs.Math.Bool.{cond}
use mathlib.Core.List.{List}
use Rattle.std.proofs.Math.Option.{none, some}
use Rattle.std.proofs.Math.Nat.{mod-lt, mod-eq_of_lt}
use Rattle.std.proofs.Math.Decide.{dec_lt}
use native.Mathlib.Omega.{arith}
use borrow.Author.Tests.{lt-ltb, le-ltb}
use Rattle.std.proofs.Math.Dec.{T, ltb→lt}
use Rattle.std.proofs.Math.ListN.{get_or, get_or-append}
use Rattle.lists.specs.Lists.{all, list_of}
use Rattle.lists.specs.Loops.{Checked, checked_none, checked_more, checked_done, Filled, filled_none, filled_more, filled_part}
use Rattle.lists.specs.Tests.{conj, passes}
use Rattle.lists.specs.Entries.{all_each, all_same, all_fails, length_list_of, get_d_list_of, list_of_same}
use Rattle.field.specs.Field.{blank}
use Rattle.sizes.specs.Sizes.{degree, blocks}
use Rattle.sizes.specs.Laws.{InRange}
use Rattle.sizes.proofs.Laws.{sized}
use Rattle.messages.specs.Messages.{read_point, said}
use Rattle.messages.proofs.Laws.{heard_same}
use Rattle.decoder.specs.declared.Coefficients.{Coefficients}
use Rattle.decoder.specs.Decoder.{Decoded}
use Rattle.decoder.specs.Decoder.{Polynomial, Nothing, Refused}
use Rattle.decoder.specs.Decoder.{decoded, four, polynomial_of}
use Rattle.dissemination.specs.Dissemination.{spoken, points_in, point_at, block_of, there, coefficient, is_byte, is_block, byte_at, record_of, record_in}
use Rattle.dissemination.specs.Laws.{silenced}
use Rattle.dissemination.proofs.Laws.{said_silenced}
use Rattle.dissemination.specs.Decoding.{is_byte_at, byte_in, coefficient_of, answer_in, stored_at, Stored, Decodes, stored_byte}

-- ONE BLOCK

module _ (n m : ℕ) (received : ℕ → ℕ → ℕ) (k : ℕ) where
  -- a block without a polynomial
  pub block_missing : polynomial_of n (answer_in n received k) ≡ none → is_block n m received k ≡ false
  unfolding is_block block_of answer_in there
  block_missing e = rw e refl

  module _ (c : Coefficients) (e : answer_in n received k ≡ Polynomial c) where
    block_is : block_of n (received k) ≡ some (take (degree n + 1) (four c))
    unfolding block_of answer_in polynomial_of
    block_is = rw e refl

    pub block_bytes : is_block n m received k ≡ all (byte_in m (k * (degree n + 1)) c) (degree n + 1)
    unfolding is_block there is_byte coefficient byte_in is_byte_at
    block_bytes = rw block_is (all_same (is_byte n m (some (take (degree n + 1) (four c))) k) (byte_in m (k * (degree n + 1)) c) (degree n + 1) (λ i l.
        rw (get_or-take (degree n + 1) (four c) i 0 l) refl))

    -- coefficient i of block k lies at place 4k + i
    pub stored : (i : ℕ) → i < 4 → get_or (four c) i 0 ≡ stored_at n received (4 * k + i)
    unfolding stored_at coefficient_of
    stored i l =
        let p : (4 * k + i) / 4 ≡ k = omega arith in
        let q : (4 * k + i) % 4 ≡ i = omega arith in
        rw (p, q, e) refl

-- ALL BLOCKS

-- the first k blocks are decoded to bytes, and their coefficients lie in their places
pub record Done (n m : ℕ) (received : ℕ → ℕ → ℕ) (zeros coefficients : List ℕ) (k : ℕ) : Type 0 where
  pub checked : Checked (is_block n m received) (blocks n m) k
  pub filled : Filled (stored_at n received) (4 * blocks n m) zeros coefficients (4 * k)

module _ (n m : ℕ) (received : ℕ → ℕ → ℕ) where
  pub done_none : (zeros : List ℕ) → 4 * blocks n m ≤ length zeros → Done n m received zeros zeros 0
  done_none zeros h = record { checked = checked_none (is_block n m received) (blocks n m); filled = filled_none (stored_at n received) (4 * blocks n m) zeros h }

  -- one block more: its four coefficients are written
  pub done_more : (zeros all : List ℕ) (k : ℕ) (c : Coefficients) (good : Bool) → Done n m received zeros all k → k < blocks n m → answer_in n received k ≡ Polynomial c
      → good ≡ is_block n m received k → not good ≡ false
      → Done n m received zeros (set (set (set (set all (4 * k) c.c0) (4 * k + 1) c.c1) (4 * k + 2) c.c2) (4 * k + 3) c.c3) (k + 1)
  done_more zeros all k c good d h e g t =
      let a = filled_more f w zeros all (4 * k) c.c0 d.filled (omega arith) (stored n m received k c e 0 (omega arith) ∙ ap f (omega arith)) in
      let b = filled_more f w zeros _ (4 * k + 1) c.c1 a (omega arith) (stored n m received k c e 1 (omega arith)) in
      let p = filled_more f w zeros _ (4 * k + 2) c.c2 (at_next (4 * k + 1 + 1) (4 * k + 2) _ (omega arith) b) (omega arith) (stored n m received k c e 2 (omega arith)) in
      let q = filled_more f w zeros _ (4 * k + 3) c.c3 (at_next (4 * k + 2 + 1) (4 * k + 3) _ (omega arith) p) (omega arith) (stored n m received k c e 3 (omega arith)) in
      record { checked = checked_more (is_block n m received) (blocks n m) k good d.checked h g t; filled = at_next (4 * k + 3 + 1) (4 * (k + 1)) _ (omega arith) q }
    where
      f : ℕ → ℕ
      f = stored_at n received

      w : ℕ
      w = 4 * blocks n m

      at_next : (i j : ℕ) (l : List ℕ) → i ≡ j → Filled (stored_at n received) (4 * blocks n m) zeros l i → Filled (stored_at n received) (4 * blocks n m) zeros l j
      at_next i j l e p = rw e at p

module _ (n m : ℕ) (received : ℕ → ℕ → ℕ) where
  pub decodes_none : (k : ℕ) → k < blocks n m → is_block n m received k ≡ false → Decodes n m received None
  decodes_none k h e = all_fails (is_block n m received) (blocks n m) k h e

  pub decodes_all : (zeros coefficients : List ℕ) (k : ℕ) → Done n m received zeros coefficients k → blocks n m ≤ k → Decodes n m received (Some coefficients)
  unfolding said
  decodes_all zeros coefficients k d h =
      record {
        each = sym (checked_done (is_block n m received) (blocks n m) k d.checked h);
        places = λ q l.
            ap (λ (c : List ℕ). get_or c q blank) (filled_part (stored_at n received) (4 * blocks n m) zeros coefficients (4 * k) d.filled (omega arith))
            ∙ get_or-append (list_of (stored_at n received) (4 * blocks n m)) (drop (4 * blocks n m) zeros) blank q (omega (arith, length_list_of (stored_at n received) (4 * blocks n m)))
            ∙ get_d_list_of (stored_at n received) (4 * blocks n m) q blank l;
      }

module _ (n m : ℕ) (received : ℕ → ℕ → ℕ) (coefficients : List ℕ) (range : InRange n m) (d : Stored n m received coefficients) where
  -- a coefficient of a block is the decoder's
  from_decoder : (k c : ℕ) → c < degree n + 1 → coefficient_of (answer_in n received k) c ≡ coefficient (block_of n (received k)) c
  unfolding block_of answer_in polynomial_of coefficient coefficient_of
  from_decoder k c l = go (decoded n (list_of (point_at (received k)) n))
    where
      go : (a : Decoded) → coefficient_of a c ≡ coefficient (polynomial_of n a) c
      go (Polynomial p) = sym (get_or-take (degree n + 1) (four p) c 0 l)
      go Nothing = refl
      go (Refused r) = refl

  -- and a byte
  is_small : (k c : ℕ) → k < blocks n m → c < degree n + 1 → coefficient (block_of n (received k)) c < 256
  unfolding is_block is_byte
  is_small k c h l =
      let b : T (is_block n m received k) = all_each (is_block n m received) (blocks n m) (passes _ d.each) k h in
      let bytes : T (all (is_byte n m (block_of n (received k)) k) (degree n + 1)) = search conj in
      let byte : T (is_byte n m (block_of n (received k)) k c) = all_each (is_byte n m (block_of n (received k)) k) (degree n + 1) bytes c l in
      ltb→lt (coefficient (block_of n (received k)) c) 256 (search conj)

  byte_is : (p : ℕ) → stored_byte (degree n + 1) m coefficients p ≡ byte_at n m received p
  unfolding stored_byte byte_at stored_at
  byte_is p = go (dec_lt p m)
    where
      go : Dec (p < m) → cond (ltb p m) (said coefficients (4 * (p / (degree n + 1)) + p % (degree n + 1)) % 256) 0
          ≡ cond (ltb p m) (coefficient (block_of n (received (p / (degree n + 1)))) (p % (degree n + 1))) 0
      go (yes l) =
          let k = p / (degree n + 1) in
          let c = p % (degree n + 1) in
          let h : k < blocks n m = (div-lt_iff_lt-mul {k = degree n + 1} (omega arith)).1 (omega (arith, (sized n m range).blocks_enough)) in
          let w : c < degree n + 1 = mod-lt p (omega arith) in
          let low : degree n ≤ 3 = (sized n m range).degree_high in
          let at_k : (4 * k + c) / 4 ≡ k = omega arith in
          let at_c : (4 * k + c) % 4 ≡ c = omega arith in
          rw (lt-ltb p m l)
          (ap (λ (v : ℕ). v % 256) (d.places (4 * k + c) (omega arith) ∙ rw (at_k, at_c) (from_decoder k c w)) ∙ mod-eq_of_lt (is_small k c h w))
      go (no l) = rw (le-ltb p m (omega arith)) refl

  pub bytes_are : list_of (stored_byte (degree n + 1) m coefficients) 32 ≡ list_of (byte_at n m received) 32
  bytes_are = list_of_same (stored_byte (degree n + 1) m coefficients) (byte_at n m received) 32 (λ p _. byte_is p)

-- THE CALL

-- the points of a block, whichever way the column's own message is told
pub points_in_same : (own : ℕ) (mine other : List ℕ) (w : ℕ) (inbox : List ℕ) → ((k : ℕ) → said mine k ≡ said other k) → points_in own mine w inbox ≡ points_in own other w inbox
unfolding points_in
points_in_same own mine other w inbox h = fun_ext (λ k. fun_ext (λ j. ap read_point (heard_same own mine w inbox other j k (h k))))

pub decodes_told : (n m own : ℕ) (speaks : Bool) (kept mine : List ℕ) (w : ℕ) (inbox : List ℕ) (found : Option (List ℕ)) → mine ≡ silenced speaks kept
    → Decodes n m (points_in own mine w inbox) found → Decodes n m (points_in own (spoken speaks kept) w inbox) found
decodes_told n m own speaks kept mine w inbox found e d =
    subst (λ (R : ℕ → ℕ → ℕ). Decodes n m R found) (points_in_same own mine (spoken speaks kept) w inbox (λ k. rw e (said_silenced speaks kept k))) d

module _ (n m : ℕ) (received : ℕ → ℕ → ℕ) where
  pub record_none : Decodes n m received None → record_in None ≡ record_of n m received
  unfolding record_of
  record_none d = rw d refl

  pub record_some : (coefficients bytes : List ℕ) → InRange n m → Decodes n m received (Some coefficients)
      → bytes ≡ list_of (stored_byte (degree n + 1) m coefficients) 32 → record_in (Some bytes) ≡ record_of n m received
  unfolding record_of
  record_some coefficients bytes range d b = rw (d.each, b, bytes_are n m received coefficients range d) refl
