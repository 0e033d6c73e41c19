-- The laws of a listing: numbers by their digits, words by their letters, and that 3,200 bytes hold every listing (`listing_fits`).
use Rattle.std.specs.Prelude.{◌≡◌, refl, Bool, true, false, cond, List, [], ◌∷◌, ℕ, zero, suc, ◌+◌, ◌*◌, ◌/◌, ◌≤◌, ◌<◌, eqb, ltb, length, take, get_or}
use Rattle.std.proofs.Common.{sym, ◌∙◌, suc-mul, arith, lt-ltb, le-ltb, length-append, take-suc}
use Rattle.std.proofs.Math.Seq.{take-length}
use Rattle.agreement.specs.declared.Entry.{Entry}
use Rattle.wall_run.specs.Run.{Outcomes}
use Rattle.wall_run.specs.Row.{entry_at}
use Rattle.protocols.specs.declared.Protocol.{Protocol}
use Rattle.sizes.specs.Sizes.{faults, degree, blocks}
use Rattle.protocols.specs.Protocols.{rounds_in}
use Rattle.listing.specs.Listing.{ascii, joined, digit, decimal, named, hex, hex_at, hexes, sizes_line, record_text, sound_line, unsound_line, column_line, line_at, column_lines, refused_line, listing}

-- NUMBERS, by their size

pub decimal_one : (v : ℕ) → v < 10 → decimal v ≡ digit v ∷ []
unfolding decimal
decimal_one v h = simp (lt-ltb v 10 h)

pub decimal_two : (v : ℕ) → 10 ≤ v → v < 100 → decimal v ≡ digit (v / 10) ∷ digit v ∷ []
unfolding decimal
decimal_two v l h = simp (le-ltb v 10 l, lt-ltb v 100 h)

pub decimal_three : (v : ℕ) → 100 ≤ v → decimal v ≡ digit (v / 100) ∷ digit (v / 10) ∷ digit v ∷ []
unfolding decimal
decimal_three v h = simp (le-ltb v 10 (omega arith), le-ltb v 100 h)

-- WORDS: one byte after the other

unfoldable pub letter : List ℕ → ℕ → List ℕ
letter word k = get_or word k 0 ∷ []

front : (word : List ℕ) (k : ℕ) → k ≤ length word → joined (letter word) k ≡ take k word
unfolding joined letter
front word zero h = refl
front word (suc k) h = rw (front word k (omega arith)) (sym (take-suc word k 0 (omega arith)))

pub word_is : (word : List ℕ) → joined (letter word) (length word) ≡ word
word_is word = front word (length word) (omega arith) ∙ take-length word

-- HOW LONG A LISTING IS

either_le : (b : Bool) (l r : List ℕ) (k : ℕ) → length l ≤ k → length r ≤ k → length (cond b l r) ≤ k
either_le true l r k h g = h
either_le false l r k h g = g

decimal_le : (v : ℕ) → length (decimal v) ≤ 3
unfolding decimal
decimal_le v = either_le (ltb v 10) _ _ 3 (omega arith) (either_le (ltb v 100) _ _ 3 (omega arith) (omega arith))

named_le : (word : List ℕ) (v : ℕ) → length (named word v) ≤ length word + 3
unfolding named
named_le word v = rw length-append (omega (arith, decimal_le v))

joined_le : (f : ℕ → List ℕ) (n k : ℕ) → ((i : ℕ) → length (f i) ≤ k) → length (joined f n) ≤ n * k
unfolding joined
joined_le f zero k h = omega arith
joined_le f (suc n) k h = rw (length-append, suc-mul) (omega (arith, joined_le f n k h, h n))

hexes_le : (m : ℕ) (bytes : List ℕ) → length (hexes m bytes) ≤ m * 2
unfolding hexes hex_at hex
hexes_le m bytes = joined_le (hex_at bytes) m 2 (λ p. omega arith)

sizes_le : (p : Protocol) (n m : ℕ) → length (sizes_line p n m) ≤ 47
unfolding sizes_line ascii
sizes_le p n m =
    simp length-append (omega (
      arith,
      named_le (ascii "wall ") n,
      named_le (ascii " ") m,
      named_le (ascii " t ") (faults n),
      named_le (ascii " d ") (degree n),
      named_le (ascii " blocks ") (blocks n m),
      named_le (ascii " rounds ") (rounds_in p n),
    ))

record_le : (m : ℕ) (e : Entry) → m ≤ 32 → length (record_text m e) ≤ 64
unfolding record_text ascii
record_le m e h = either_le e.has_record _ _ 64 (omega (arith, hexes_le m e.bytes)) (omega arith)

sound_le : (m i : ℕ) (e : Entry) → m ≤ 32 → length (sound_line m i e) ≤ 100
unfolding sound_line ascii
sound_le m i e h =
    simp length-append (omega (arith, decimal_le i, named_le (ascii " sound grade ") e.grade, named_le (ascii " bit ") e.vote, record_le m e h))

unsound_le : (i : ℕ) → length (unsound_line i) ≤ 100
unfolding unsound_line ascii
unsound_le i = rw length-append (omega (arith, decimal_le i))

column_le : (m i : ℕ) (e : Entry) → m ≤ 32 → length (column_line m i e) ≤ 100
unfolding column_line
column_le m i e h = either_le (eqb e.mark 0) _ _ 100 (sound_le m i e h) (unsound_le i)

columns_le : (n m : ℕ) (entries : List Entry) → n ≤ 31 → m ≤ 32 → length (column_lines n m entries) ≤ 3100
unfolding column_lines line_at
columns_le n m entries h g =
    let each : (i : ℕ) → length (line_at m entries i) ≤ 100 = λ i. either_le (ltb i 31) _ _ 100 (column_le m (i + 1) (entry_at entries i) g) (omega arith) in
    omega (arith, joined_le (line_at m entries) n 100 each)

pub refused_le : (why : ℕ) → length (refused_line why) ≤ 12
unfolding refused_line ascii
refused_le why = rw length-append (omega (arith, named_le (ascii "refused ") why))

-- 3,200 bytes hold the listing of every wall
pub listing_fits : (p : Protocol) (n m : ℕ) (o : Outcomes) → n ≤ 31 → m ≤ 32 → length (listing p n m o) ≤ 3200
unfolding listing
listing_fits p n m o h g =
    either_le (eqb o.refusal 0) _ _ 3200 (rw length-append (omega (arith, sizes_le p n m, columns_le n m o.entries h g))) (omega (arith, refused_le o.refusal))
