-- Laws of parts that lie one after the other: how long they are together, what stands at the place of each, and bytes cut into parts.
use Rattle.std.specs.Prelude.{◌≡◌, refl, List, [], ◌∷◌, ◌++◌, ℕ, ◌+◌, ◌<◌, length, get_or}
use Rattle.std.proofs.Common.{ap, ◌∙◌, add-zero, arith, length-append, get_or-append-add}
use Rattle.std.proofs.Math.ListN.{get_or-append}
use Rattle.lists.specs.Lists.{list_of}
use Rattle.lists.specs.Entries.{list_of_same, list_of_cut}
use Rattle.state_bytes.specs.Layout.{Part, same_part, if_same, start_in, length_in, length_all, joined, byte_from}

-- the lengths of parts as told, and as they are
unfoldable pub told : List (Part × ℕ) → List ℕ
told [] = []
told (p ∷ ps) = p.1 ∷ told ps

unfoldable pub lengths : (Part → List ℕ) → List (Part × ℕ) → List ℕ
lengths f [] = []
lengths f (p ∷ ps) = length (f p.0) ∷ lengths f ps

-- where each part is as long as told, so are all
pub length_parts : (f : Part → List ℕ) (ps : List (Part × ℕ)) → lengths f ps ≡ told ps → length (joined f ps) ≡ length_all ps
unfolding joined lengths told
length_parts f [] e = refl
length_parts f (p ∷ ps) e =
    let long : length (f p.0) ≡ p.1 = cc in
    length-append (f p.0) (joined f ps) ∙ omega (arith, length_parts f ps (cc))

-- and part k stands at its place
pub at_part : (f : Part → List ℕ) (ps : List (Part × ℕ)) (k : Part) (i : ℕ) → lengths f ps ≡ told ps → i < length_in ps k
    → get_or (joined f ps) (start_in ps k + i) 0 ≡ get_or (f k) i 0
unfolding joined lengths told
at_part f [] k i e h = absurd (omega arith)
at_part f (p ∷ ps) k i e h = go (same_part p.0 k) h (at_part f ps k i (cc))
  where
    long : length (f p.0) ≡ p.1
    long = cc

    go : (d : Dec (p.0 ≡ k)) → i < if_same d p.1 (length_in ps k) → (i < length_in ps k → get_or (joined f ps) (start_in ps k + i) 0 ≡ get_or (f k) i 0)
        → get_or (f p.0 ++ joined f ps) (if_same d 0 (p.1 + start_in ps k) + i) 0 ≡ get_or (f k) i 0
    go (yes s) l rest =
        let z : 0 + i ≡ i = omega arith in
        rw z (get_or-append (f p.0) (joined f ps) 0 i (omega (arith, long)) ∙ ap (λ (j : Part). get_or (f j) i 0) s)
    go (no s) l rest =
        let z : p.1 + start_in ps k + i ≡ length (f p.0) + (start_in ps k + i) = omega (arith, long) in
        rw z (get_or-append-add (f p.0) (joined f ps) (start_in ps k + i) 0 ∙ rest l)

-- bytes from place a on, cut into parts
unfoldable pub slices : List ℕ → ℕ → List (Part × ℕ) → List ℕ
slices state a [] = []
slices state a (p ∷ ps) = list_of (byte_from state a) p.1 ++ slices state (a + p.1) ps

pub in_parts : (state : List ℕ) (a : ℕ) (ps : List (Part × ℕ)) → list_of (byte_from state a) (length_all ps) ≡ slices state a ps
unfolding slices byte_from list_of
in_parts state a [] = refl
in_parts state a (p ∷ ps) =
    list_of_cut (byte_from state a) p.1 (length_all ps)
    ∙ ap (λ (l : List ℕ). list_of (byte_from state a) p.1 ++ l)
    (list_of_same _ _ (length_all ps) (λ i h. ap (λ (q : ℕ). get_or state q 0) (omega arith)) ∙ in_parts state (a + p.1) ps)

-- parts of one byte and of two
pub one_byte : (state : List ℕ) (a : ℕ) → list_of (byte_from state a) 1 ≡ get_or state a 0 ∷ []
unfolding list_of byte_from
one_byte state a = rw (add-zero a) refl

pub two_bytes : (state : List ℕ) (a : ℕ) → list_of (byte_from state a) 2 ≡ get_or state a 0 ∷ get_or state (a + 1) 0 ∷ []
unfolding list_of byte_from
two_bytes state a = rw (add-zero a) refl
