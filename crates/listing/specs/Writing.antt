-- Writing one part of a text after another to the front of a slice: what each call that does so ensures (`Puts`), and that such calls add up.
-- A call takes a text t and leaves a text t'. Where there is no more room, the place stays at the end.
use Rattle.std.specs.Prelude.{◌≡◌, refl, List, [], ◌∷◌, ◌++◌, ℕ, ◌+◌, ◌≤◌, ◌<◌, min, length, drop, get_or, set}
use Rattle.std.proofs.Common.{sym, ap, ◌∙◌, append_assoc, append-nil, add-one, arith, length-append, length-take, length-drop, take_all, drop-cons}
use Rattle.std.proofs.Math.Nat.{min-eq_left, zero-min}
use Rattle.std.proofs.Math.Seq.{take-length}
use Rattle.std.proofs.lemmas.List.{take-append-le, set_at}
use Rattle.listing.specs.declared.text.Text.{Text}
use Rattle.listing.specs.Listing.{shown, joined}

-- l stands at the front of the slice, which held s, and the place is the one behind it
pub record Holds (l s : List ℕ) (t : Text) : Type 0 where
  pub shows : t.out.now ≡ shown l s
  pub place : t.at ≡ min (length l) (length s)

-- a call wrote w behind whatever was written before, to the same slice
pub record Puts (w : List ℕ) (t t' : Text) : Type 0 where
  pub same : t'.out.ghost_name ≡ t.out.ghost_name
  pub after : (l s : List ℕ) → Holds l s t → Holds (l ++ w) s t'

-- SHOWN

pub length_shown : (l s : List ℕ) → length (shown l s) ≡ length s
unfolding shown
length_shown l s = simp (length-take, length-append, length-drop) (min-eq_left (omega arith))

shown_none : (s : List ℕ) → shown [] s ≡ s
unfolding shown
shown_none s = take-length s

pub shown_room : (l s : List ℕ) → length l ≤ length s → shown l s ≡ l ++ drop (length l) s
unfolding shown
shown_room l s h = take_all (length s) (l ++ drop (length l) s) (simp (length-append, length-drop) (omega arith))

shown_full : (l w s : List ℕ) → length s ≤ length l → shown (l ++ w) s ≡ shown l s
unfolding shown
shown_full l w s h =
    rw append_assoc (take-append-le (length s) l (w ++ drop (length (l ++ w)) s) h) ∙ sym (take-append-le (length s) l (drop (length l) s) h)

shown_byte : (l s : List ℕ) (b : ℕ) → length l < length s → set (shown l s) (length l) b ≡ shown (l ++ (b ∷ [])) s
shown_byte l s b h =
    let e : length (l ++ (b ∷ [])) ≡ length l + 1 = length-append l (b ∷ []) ∙ omega arith in
    rw (shown_room l s (omega arith), shown_room (l ++ (b ∷ [])) s (omega arith), e, add-one, drop-cons s (length l) 0 h, set_at l (get_or s (length l) 0) _ b (length l) refl, append_assoc) refl

-- CALLS

pub puts_none : (t : Text) → Puts [] t t
puts_none t = record { same = refl; after = λ l s h. rw append-nil h }

pub puts_more : {v w : List ℕ} {t t' t'' : Text} → Puts v t t' → Puts w t' t'' → Puts (v ++ w) t t''
puts_more {v} p q =
    record { same = q.same ∙ p.same; after = λ l s h. rw (← append_assoc) (q.after (l ++ v) s (p.after l s h)) }

-- one byte, where there is room
pub puts_byte : (b : ℕ) (t t' : Text) → t.at < length t.out.now
    → t'.out.ghost_name ≡ t.out.ghost_name → t'.out.now ≡ set t.out.now t.at b → t'.at ≡ t.at + 1 → Puts (b ∷ []) t t'
puts_byte b t t' room same written next = record { same = same; after = go }
  where
    go : (l s : List ℕ) → Holds l s t → Holds (l ++ (b ∷ [])) s t'
    go l s h =
        let n : length t.out.now ≡ length s = ap length h.shows ∙ length_shown l s in
        let e : t.at ≡ length l = omega (arith, h.place) in
        record { shows = written ∙ (rw (h.shows, e) (shown_byte l s b (omega arith))); place = rw length-append (omega arith) }

-- any text, where there is none
pub puts_full : (w : List ℕ) (t : Text) → length t.out.now ≤ t.at → Puts w t t
puts_full w t full = record { same = refl; after = go }
  where
    go : (l s : List ℕ) → Holds l s t → Holds (l ++ w) s t
    go l s h =
        let n : length t.out.now ≡ length s = ap length h.shows ∙ length_shown l s in
        record { shows = h.shows ∙ sym (shown_full l w s (omega (arith, h.place))); place = rw length-append (omega (arith, h.place)) }

-- from the slice's first place on
pub puts_done : {w : List ℕ} {t t' : Text} → t.at ≡ 0 → Puts w t t' → (t'.at ≡ min (length w) (length t.out.now)) × (t'.out.now ≡ shown w t.out.now)
puts_done {t = t} start p =
    let s = t.out.now in
    let h = p.after [] s (record { shows = sym (shown_none s); place = start ∙ sym (zero-min (length s)) }) in
    (h.place, h.shows)

-- LOOPS: of the n texts f 0 to f (n - 1) the first k were put, one after the other
pub record Joins (f : ℕ → List ℕ) (n : ℕ) (t t' : Text) (k : ℕ) : Type 0 where
  pub within : k ≤ n
  pub puts : Puts (joined f k) t t'

pub joins_none : (f : ℕ → List ℕ) (n : ℕ) (t : Text) → Joins f n t t 0
unfolding joined
joins_none f n t = record { within = omega arith; puts = puts_none t }

pub joins_more : {f : ℕ → List ℕ} {n : ℕ} {t t' t'' : Text} {w : List ℕ} {k : ℕ} → Joins f n t t' k → k < n → w ≡ f k → Puts w t' t'' → Joins f n t t'' (k + 1)
unfolding joined
joins_more {f} {k = k} j h e p = record { within = omega arith; puts = rw (add-one, ← e) (puts_more j.puts p) }

pub joins_done : {f : ℕ → List ℕ} {n : ℕ} {t t' : Text} {k : ℕ} → Joins f n t t' k → n ≤ k → Puts (joined f n) t t'
joins_done {n = n} {k = k} j h =
    let e : k ≡ n = omega (arith, j.within) in
    rw e at j.puts
