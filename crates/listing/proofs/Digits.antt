-- The laws of a number in decimal digits.
use Rattle.std.specs.Prelude.{◌≡◌, Option, Some, None, ◌⊎◌, List, ℕ, zero, suc, ◌+◌, ◌-◌, ◌*◌, ◌≤◌, ◌<◌, length, get_or, leb, ◌&&◌}
use Rattle.std.specs.Option.{SomeIff, unwrap_or}
use Rattle.std.proofs.Common.{inl, inr, sym, refl, arith, le-leb, lt-ltb, le-ltb, add-one}
use Rattle.std.proofs.Math.Bool.{and-false}
use Rattle.std.proofs.lemmas.Bool.{lt-leb}
use Rattle.listing.specs.Number.{with_digit, read_to, number, number_in}

-- a letter that is no digit
pub not_digit : (v c : ℕ) → (c < 48) ⊎ (57 < c) → with_digit v c ≡ 256
unfolding with_digit
not_digit v c (inl h) = rw (lt-leb _ _ h) refl
not_digit v c (inr h) = rw (lt-leb _ _ h, and-false (leb 48 c)) refl

-- a number that is no byte
pub no_byte : (v c : ℕ) → 256 ≤ 10 * v + (c - 48) → with_digit v c ≡ 256
unfolding with_digit
no_byte v c h = rw (le-ltb (10 * v + (c - 48)) 256 h, and-false (leb 48 c && leb c 57)) refl

-- the number that is a digit longer, where it is a byte
pub longer : (v c ten : ℕ) (r : Option ℕ) → (48 ≤ c) × (c ≤ 57) → ten ≡ v * 10 → SomeIff r (ten + (c - 48) < 256) (ten + (c - 48)) → number_in r ≡ with_digit v c
unfolding with_digit
longer v c ten None d e is = sym (no_byte v c (omega (arith, e, is)))
longer v c ten (Some x) d e is = rw (le-leb _ _ d.0, le-leb _ _ d.1, lt-ltb (10 * v + (c - 48)) 256 (omega (arith, e, is.0))) (omega (arith, e, is.1))

-- one letter more is read
pub read_more : (text : List ℕ) (k v next : ℕ) → v ≡ read_to text k → next ≡ with_digit v (get_or text k 0) → read_to text (k + 1) ≡ next
unfolding read_to
read_more text k v next e is = rw (add-one, ← e) (sym is)

-- once the text is no number, it is none
pub none_stays : (text : List ℕ) (k d j : ℕ) → j ≡ d + k → read_to text k ≡ 256 → read_to text j ≡ 256
unfolding read_to
none_stays text k zero j p e = let q : j ≡ k = omega (arith, p) in rw q e
none_stays text k (suc d) zero p e = absurd (omega (arith, p))
none_stays text k (suc d) (suc j) p e = rw (none_stays text k d j (omega (arith, p)) e) (no_byte 256 (get_or text j 0) (omega arith))

-- what is told by what was read
pub told : (text : List ℕ) (r : Option ℕ) (v : ℕ) → number_in r ≡ read_to text (length text) → v ≡ unwrap_or r 0 → v < 256 → v ≡ number text
unfolding number
told text None v e is h = rw (← e) is
told text (Some x) v e is h = rw (← e, lt-ltb x 256 (omega (arith, is, h))) is
