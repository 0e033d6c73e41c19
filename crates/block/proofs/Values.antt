-- Laws of a value: it is a number of the field; the parts of a list; a value from the last coefficient on, as the code goes.
use Rattle.std.specs.Prelude.{◌≡◌, refl, List, [], ◌∷◌, ℕ, zero, suc, ◌+◌, ◌-◌, ◌*◌, ◌≤◌, ◌<◌, length, get_or}
use Rattle.std.proofs.Common.{ap, ◌∙◌, mod-lt, suc-add, add-suc, add-zero, le_of_suc-le-suc, arith, lit<}
use Rattle.lists.specs.Lists.{Below}
use Rattle.field.specs.Field.{of, add, multiply}
use Rattle.block.specs.Block.{part, value}
use Rattle.block.specs.Value.{behind}

pub value_lt : (cs : List ℕ) (x : ℕ) → value cs x < 257
unfolding value
value_lt [] x = lit< tt
value_lt (c ∷ cs) x = mod-lt (c + multiply x (value cs x)) (lit< tt)

-- with one division
pub value_cons : (c : ℕ) (cs : List ℕ) (x : ℕ) → value (c ∷ cs) x ≡ of (c + x * value cs x)
unfolding value
value_cons c cs x = omega arith

-- PARTS

pub get_d_part : (bytes : List ℕ) (from count i : ℕ) → i < count → get_or (part bytes from count) i 0 ≡ get_or bytes (from + i) 0
unfolding part
get_d_part bytes from zero i h = absurd (omega arith)
get_d_part bytes from (suc count) zero h = rw add-zero
get_d_part bytes from (suc count) (suc i) h = rw (add-suc, ← suc-add) (get_d_part bytes (suc from) count i (le_of_suc-le-suc h))

pub length_part : (bytes : List ℕ) (from count : ℕ) → length (part bytes from count) ≡ count
unfolding part
length_part bytes from zero = refl
length_part bytes from (suc count) = ap suc (length_part bytes (suc from) count)

-- bytes stay bytes
pub below_part : (b : ℕ) (bytes : List ℕ) (from count : ℕ) → 0 < b → Below b bytes → Below b (part bytes from count)
unfolding part
below_part b bytes from zero p h i = p
below_part b bytes from (suc count) p h zero = h from
below_part b bytes from (suc count) p h (suc i) = below_part b bytes (suc from) count p h i

part_tail : (c : ℕ) (cs : List ℕ) (from count : ℕ) → part (c ∷ cs) (suc from) count ≡ part cs from count
unfolding part
part_tail c cs from zero = refl
part_tail c cs from (suc count) = ap {B = List ℕ} (λ l. get_or cs from 0 ∷ l) (part_tail c cs (suc from) count)

-- the front of a part is a part
pub part_front : (bytes : List ℕ) (from room count : ℕ) → count ≤ room → part (part bytes from room) 0 count ≡ part bytes from count
unfolding part
part_front bytes from room zero h = refl
part_front bytes from zero (suc count) h = absurd (omega arith)
part_front bytes from (suc room) (suc count) h =
    ap {B = List ℕ} (λ l. get_or bytes from 0 ∷ l) (part_tail (get_or bytes from 0) (part bytes (suc from) room) 0 count ∙ part_front bytes (suc from) room count (le_of_suc-le-suc h))

pub behind_none : (cs : List ℕ) (from count x rest : ℕ) → count ≡ 0 → rest ≡ behind (part cs from count) x rest
unfolding part behind
behind_none cs from count x rest e = rw e refl

behind_last : (cs : List ℕ) (from count x rest : ℕ)
    → behind (part cs from count) x (add (get_or cs (from + count) 0) (multiply x rest)) ≡ behind (part cs from (suc count)) x rest
unfolding part behind
behind_last cs from zero x rest = rw add-zero refl
behind_last cs from (suc count) x rest =
    rw (add-suc, ← suc-add) (ap (λ (v : ℕ). add (get_or cs from 0) (multiply x v)) (behind_last cs (suc from) count x rest))

-- of the first `count` coefficients, the last one goes to the rest
pub behind_more : (cs : List ℕ) (count x rest : ℕ) → (count ≡ 0 → ⊥)
    → behind (part cs 0 (count - 1)) x (add (of (get_or cs (count - 1) 0)) (multiply x rest)) ≡ behind (part cs 0 count) x rest
behind_more cs zero x rest z = absurd (z refl)
behind_more cs (suc count) x rest z =
    let less : suc count - 1 ≡ count = omega arith in
    let none : 0 + count ≡ count = omega arith in
    rw less (ap (λ (v : ℕ). behind (part cs 0 count) x v) (reduced (get_or cs count 0) (multiply x rest)) ∙ (rw none at (behind_last cs 0 count x rest)))
  where
    reduced : (a b : ℕ) → add (of a) b ≡ add a b
    reduced a b = omega arith

-- nothing stands behind a whole polynomial
pub behind_zero : (cs : List ℕ) (x : ℕ) → behind cs x 0 ≡ value cs x
unfolding behind value
behind_zero [] x = refl
behind_zero (c ∷ cs) x = ap (λ (v : ℕ). add c (multiply x v)) (behind_zero cs x)
