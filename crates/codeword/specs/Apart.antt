-- Two different records, all their blocks at once, meet at no more than d of n points.
use Rattle.std.specs.Prelude.{◌≡◌, List, ℕ, suc, ◌+◌, ◌*◌, ◌/◌, ◌%◌, ◌≤◌, ◌<◌, T, length, get_or}
use Rattle.std.proofs.Common.{sym, ap, ◌∙◌, mod-lt, div-add-mod', div-lt_iff_lt-mul, arith, eqb→eq, ext_get_or}
use Rattle.std.proofs.Math.Decide.{dec_le, dec_lt}
use Rattle.std.proofs.Math.Dec.{eqb_refl}
use Rattle.std.proofs.Math.ListN.{get_or-eq_default}
use Rattle.lists.specs.Lists.{count, Below}
use Rattle.lists.specs.Tests.{eq→eqb}
use Rattle.lists.specs.Entries.{all_each, each_all, length_list_of, get_d_list_of}
use Rattle.lists.specs.Count.{mono}
use Rattle.field.specs.Field.{blank}
use Rattle.block.specs.Block.{block, meet}
use Rattle.block.proofs.Values.{value_lt, get_d_part, length_part, below_part}
use Rattle.block.proofs.Apart.{unique}
use Rattle.sizes.specs.Sizes.{degree, blocks}
use Rattle.sizes.specs.Laws.{InRange}
use Rattle.sizes.proofs.Laws.{sized}
use Rattle.messages.specs.Messages.{said}
use Rattle.codeword.specs.Codeword.{Held, point, values, meet_in, meets}

-- POINTS

pub point_lt : (n : ℕ) (bytes : List ℕ) (x k : ℕ) → point n bytes x k < 257
unfolding point
point_lt n bytes x k = value_lt (block (degree n) bytes k) x

pub length_values : (n m : ℕ) (bytes : List ℕ) (x : ℕ) → length (values n m bytes x) ≡ blocks n m
unfolding values
length_values n m bytes x = length_list_of (point n bytes x) (blocks n m)

-- value k of the message is the value of block k; there is none past the blocks
pub said_values : (n m : ℕ) (bytes : List ℕ) (x k : ℕ) → k < blocks n m → said (values n m bytes x) k ≡ point n bytes x k
unfolding said values
said_values n m bytes x k h = get_d_list_of (point n bytes x) (blocks n m) k blank h

pub said_past : (n m : ℕ) (bytes : List ℕ) (x k : ℕ) → blocks n m ≤ k → said (values n m bytes x) k ≡ blank
unfolding said
said_past n m bytes x k h = get_or-eq_default (values n m bytes x) blank {n = k} (omega (arith, length_values n m bytes x))

-- BLOCKS

-- byte p stands in block p / (d + 1), at place p % (d + 1)
pub byte_at_lem : (d : ℕ) (r : List ℕ) (p : ℕ) → get_or (block d r (p / (d + 1))) (p % (d + 1)) 0 ≡ get_or r p 0
byte_at_lem d r p =
    get_d_part r (p / (d + 1) * (d + 1)) (d + 1) (p % (d + 1)) (mod-lt p (omega arith)) ∙ ap (λ (q : ℕ). get_or r q 0) (div-add-mod' p (d + 1))

same_blocks : (n m : ℕ) (r s : List ℕ) → Held m r → Held m s → m ≤ blocks n m * (degree n + 1)
    → ((k : ℕ) → k < blocks n m → block (degree n) r k ≡ block (degree n) s k) → r ≡ s
same_blocks n m r s hr hs room e =
    ext_get_or 0 r s (hr.size ∙ sym hs.size) (λ p h. go p (dec_lt p m))
  where
    go : (p : ℕ) → Dec (p < m) → get_or r p 0 ≡ get_or s p 0
    go p (yes l) =
        sym (byte_at_lem (degree n) r p)
        ∙ ap (λ (b : List ℕ). get_or b (p % (degree n + 1)) 0) (e (p / (degree n + 1)) ((div-lt_iff_lt-mul {k = degree n + 1} (omega arith)).1 (omega arith)))
        ∙ byte_at_lem (degree n) s p
    go p (no l) = hr.past p (omega arith) ∙ sym (hs.past p (omega arith))

-- MEETING

pub meets_refl : (n m : ℕ) (r : List ℕ) (x : ℕ) → T (meets n m r r x)
unfolding meets meet_in
meets_refl n m r x = each_all (meet_in n r r x) (blocks n m) (λ k h. eqb_refl (point n r x k))

-- two records that meet a third one at x meet there
pub met : (n m : ℕ) (r s z : List ℕ) (x : ℕ) → T (meets n m r z x) → T (meets n m s z x) → T (meets n m r s x)
unfolding meets meet_in
met n m r s z x h g = each_all (meet_in n r s x) (blocks n m) (λ k l.
    let a = all_each (meet_in n r z x) (blocks n m) h k l in
    let b = all_each (meet_in n s z x) (blocks n m) g k l in
    eq→eqb (point n r x k) (point n s x k) (eqb→eq (point n r x k) (point n z x k) a ∙ sym (eqb→eq (point n s x k) (point n z x k) b)))

-- THE LAW
pub apart : (n m : ℕ) (r s : List ℕ) → InRange n m → Held m r → Held m s → (r ≡ s → ⊥) → count (meets n m r s) n ≤ degree n
unfolding meets meet_in point
apart n m r s range hr hs ne = go (dec_le (suc (degree n)) (count (meets n m r s) n))
  where
    bytes : (l : List ℕ) → Below 256 l → Below 257 l
    bytes l h i = omega (arith, h i)

    once : (k : ℕ) → k < blocks n m → suc (degree n) ≤ count (meets n m r s) n → block (degree n) r k ≡ block (degree n) s k
    once k h l =
        let d = degree n in
        unique (block d r k) (block d s k) n (omega (arith, range.columns_high))
        (below_part 257 r (k * (d + 1)) (d + 1) (omega arith) (bytes r hr.small)) (below_part 257 s (k * (d + 1)) (d + 1) (omega arith) (bytes s hs.small))
        (length_part r (k * (d + 1)) (d + 1) ∙ sym (length_part s (k * (d + 1)) (d + 1)))
        (omega (
          arith,
          length_part r (k * (d + 1)) (d + 1),
          mono (meets n m r s) (meet (block d r k) (block d s k)) n (λ x a u t. all_each (meet_in n r s x) (blocks n m) t k h),
        ))

    go : Dec (suc (degree n) ≤ count (meets n m r s) n) → count (meets n m r s) n ≤ degree n
    go (no f) = omega arith
    go (yes l) = absurd (ne (same_blocks n m r s hr hs (sized n m range).blocks_enough (λ k h. once k h l)))
