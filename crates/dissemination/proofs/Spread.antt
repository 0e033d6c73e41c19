-- THEOREM 3.9: Protocol 3.8 is data dissemination as Definition 3.7 has it.
use Rattle.std.specs.Prelude.{◌≡◌, refl, Bool, ◌||◌, List, ltb}
use Rattle.std.proofs.Math.Path.{sym}
use Rattle.std.proofs.Common.{ap, ◌∙◌, div-lt_iff_lt-mul, lt-ltb, le-ltb, le→leb, lt→ltb, ext_get_or}
use Rattle.std.proofs.Math.Bool.{true, false, cond}
use Rattle.std.proofs.Math.Option.{Option, some}
use Prim.Native.Nat.{ℕ, suc, ◌+◌, ◌-◌, ◌*◌, ◌/◌, ◌%◌, ◌≤◌, ◌<◌}
use native.Mathlib.Omega.{arith}
use Rattle.std.proofs.Math.Decide.{dec_lt}
use Rattle.std.proofs.Math.Dec.{T, eqb, leb→le}
use Rattle.std.proofs.Math.ListN.{get_or}
use Rattle.lists.specs.Lists.{count, all, Below, list_of}
use Rattle.lists.specs.Tests.{conj, and_both, or_past, is_true, eq→eqb}
use Rattle.lists.specs.Entries.{each_all, length_list_of, get_d_list_of}
use Rattle.lists.specs.Count.{mono}
use Rattle.field.specs.Field.{blank}
use Rattle.sizes.specs.Sizes.{faults, degree, blocks}
use Rattle.sizes.specs.Laws.{InRange}
use Rattle.sizes.proofs.Laws.{sized}
use Rattle.block.specs.Block.{block, value}
use Rattle.block.proofs.Values.{get_d_part, length_part, below_part}
use Rattle.messages.specs.Messages.{read_point, said, times, from as at}
use Rattle.messages.proofs.Laws.{point_is}
use Rattle.messages.specs.Wall.{Wall, Sound}
use Rattle.messages.proofs.Quorums.{enough, unheard}
use Rattle.codeword.specs.Codeword.{Held, point}
use Rattle.codeword.specs.Apart.{point_lt, said_values, byte_at_lem}
use Rattle.decoder.specs.Decoder.{meets_at}
use Rattle.decoder.proofs.Exactly.{exactly}
use Rattle.dissemination.specs.Dissemination.{spoken, points, often, kept_point, point_at, block_of, there, coefficient, is_byte, is_block, byte_at, record_of}
use Rattle.dissemination.proofs.Kept.{kept_is}
use Rattle.dissemination.specs.Run.{Run, inputs, Consistent}

-- THE RECORD FROM ITS BLOCKS

module _ (n m : ℕ) (r : List ℕ) (received : ℕ → ℕ → ℕ) (range : InRange n m) (held : Held m r)
    (blocks_are : (k : ℕ) → k < blocks n m → block_of n (received k) ≡ some (block (degree n) r k)) where
  byte_is : (k c : ℕ) → k < blocks n m → c < degree n + 1 → coefficient (block_of n (received k)) c ≡ get_or r (k * (degree n + 1) + c) 0
  unfolding coefficient
  byte_is k c h l = rw (blocks_are k h) (get_d_part r (k * (degree n + 1)) (degree n + 1) c l)

  byte_good : (k c : ℕ) → k < blocks n m → c < degree n + 1 → T (is_byte n m (block_of n (received k)) k c)
  unfolding is_byte
  byte_good k c h l = rw (byte_is k c h l)
      (and_both (ltb (get_or r p 0) 256) (ltb p m || eqb (get_or r p 0) 0) (lt→ltb (get_or r p 0) 256 (held.small p)) (or_past p m (eqb (get_or r p 0) 0) (λ u. eq→eqb (get_or r p 0) 0 (held.past p u))))
    where
      p : ℕ
      p = k * (degree n + 1) + c

  block_good : (k : ℕ) → k < blocks n m → T (is_block n m received k)
  unfolding is_block there
  block_good k h = and_both (there (block_of n (received k))) (all (is_byte n m (block_of n (received k)) k) (degree n + 1)) (rw (blocks_are k h) tt)
      (each_all (is_byte n m (block_of n (received k)) k) (degree n + 1) (λ c l. byte_good k c h l))

  bytes_are : (p : ℕ) → byte_at n m received p ≡ get_or r p 0
  unfolding byte_at coefficient
  bytes_are p = go (dec_lt p m)
    where
      go : Dec (p < m) → cond (ltb p m) (coefficient (block_of n (received (p / (degree n + 1)))) (p % (degree n + 1))) 0 ≡ get_or r p 0
      go (yes l) =
          let k = p / (degree n + 1) in
          let h : k < blocks n m = (div-lt_iff_lt-mul {k = degree n + 1} (omega arith)).1 (omega (arith, (sized n m range).blocks_enough)) in
          rw (lt-ltb p m l, blocks_are k h) (byte_at_lem (degree n) r p)
      go (no l) = rw (le-ltb p m (omega arith)) (sym (held.past p (omega arith)))

  -- where every block is the record's, so is the whole
  pub record_is : record_of n m received ≡ some r
  unfolding record_of
  record_is =
      rw (is_true (all (is_block n m received) (blocks n m)) (each_all (is_block n m received) (blocks n m) block_good))
      (ap {B = Option (List ℕ)} some (ext_get_or 0 (list_of (byte_at n m received) 32) r (length_list_of (byte_at n m received) 32 ∙ sym held.size) (λ p h.
      get_d_list_of (byte_at n m received) 32 p 0 (omega (arith, length_list_of (byte_at n m received) 32)) ∙ bytes_are p)))

-- A BLOCK THAT n - t POINTS LIE ON IS DECODED

pub block_is : {n : ℕ} {H : ℕ → Bool} → Wall n H → (r : List ℕ) → Below 256 r → (k : ℕ) (received : ℕ → ℕ)
    → ((j : ℕ) → Sound n H j → received j ≡ point n r j k) → block_of n received ≡ some (block (degree n) r k)
unfolding block_of point point_at at
block_is {n} {H} W r small k received h =
    ((exactly n (list_of (point_at received) n) (record { low = W.low; high = W.high; full = length_list_of (point_at received) n })).finds (block (degree n) r k)).1
    (record {
      size = length_part r (k * (degree n + 1)) (degree n + 1);
      small = below_part 257 r (k * (degree n + 1)) (degree n + 1) (omega arith) (λ i. omega (arith, small i));
      meets = omega (
        arith,
        enough W (meets_at (block (degree n) r k) (at (list_of (point_at received) n))) (λ j sj.
            eq→eqb (value (block (degree n) r k) j) (at (list_of (point_at received) n) j) (sym (point_at_lem j sj ∙ h j sj))),
      );
    })
  where
    point_at_lem : (j : ℕ) → Sound n H j → at (list_of (point_at received) n) j ≡ received j
    point_at_lem j sj =
        let e : j - 1 + 1 ≡ j = omega (arith, sj.0) in
        get_d_list_of (point_at received) n (j - 1) blank (omega (arith, sj.0, sj.1)) ∙ ap received e

-- THE THEOREM

module _ {n m : ℕ} {H has : ℕ → Bool} {held : ℕ → List ℕ} {P Q : ℕ → ℕ → ℕ → ℕ} (D : Run n m H has held P Q) where
  W : Wall n H
  W = D.wall

  module _ (r : List ℕ) (whole : Held m r) (many : suc (faults n) ≤ count (inputs H has held r) n) (only : (j : ℕ) → Sound n H j → T (has j) → held j ≡ r) where
    -- who has an input sends the record's point, who has none sends blank
    sends : (i j k : ℕ) → Sound n H i → Sound n H j → k < blocks n m → T (has j) → P i k j ≡ point n r i k
    unfolding points spoken
    sends i j k si sj l h =
        D.spread i j k si sj l ∙ rw (is_true (has j) h, only j sj h, said_values n m r i k l) (point_is (point n r i k) (point_lt n r i k))

    silent : (i j k : ℕ) → Sound n H i → Sound n H j → k < blocks n m → has j ≡ false → P i k j ≡ blank
    unfolding points spoken said read_point
    silent i j k si sj l e = D.spread i j k si sj l ∙ rw e

    -- every sound column keeps the record's point
    keeps : (j k : ℕ) → Sound n H j → k < blocks n m → kept_point n (P j k) ≡ point n r j k
    unfolding often times
    keeps j k sj l =
        kept_is n (P j k) (point n r j k) (point_lt n r j k)
        (le→leb (faults n + 1) (times (P j k) (point n r j k) n) (omega (
          arith,
          many,
          mono (inputs H has held r) (λ i. eqb (P j k i) (point n r j k)) n (λ i a u h.
              let si : Sound n H i = (a, u, search conj) in
              let hi : T (has i) = search conj in
              eq→eqb (P j k i) (point n r j k) (sends j i k sj si l hi)),
        )))
        (λ w lw h.
        omega (
          arith,
          leb→le (faults n + 1) (times (P j k) w n) h,
          unheard W (P j k) (P j k) (λ i si. refl) w (λ i si e. other w lw i si e (has i) refl),
        ))
      where
        other : (w : ℕ) → w < point n r j k → (i : ℕ) → Sound n H i → P j k i ≡ w → (b : Bool) → has i ≡ b → ⊥
        other w lw i si e true q = omega (arith, e, sends j i k sj si l (rw q tt))
        other w lw i si e false q = omega (arith, e, silent j i k sj si l q, point_lt n r j k)

    ends : (i : ℕ) → Sound n H i → record_of n m (Q i) ≡ some r
    ends i si =
        record_is n m r (Q i) (record { columns_low = W.low; columns_high = W.high; bytes_low = D.bytes_low; bytes_high = D.bytes_high }) whole
        (λ k l. block_is W r whole.small k (Q i k) (λ j sj.
        D.passed i j k si sj l ∙ ap read_point (keeps j k sj l) ∙ point_is (point n r j k) (point_lt n r j k)))

  pub theorem_3_9 : Consistent n m H has held Q
  theorem_3_9 r whole many only = ends r whole many only
