-- Parts put one behind the other to the front of a slice, each through the part of the slice that starts at its place.
use Rattle.std.specs.Prelude.{◌≡◌, List, ◌++◌, ℕ, ◌+◌, ◌-◌, ◌≤◌, length, take, drop}
use Rattle.std.proofs.Common.{sym, ◌∙◌, append_assoc, append-nil, arith, length-append, length-drop, drop_of_length-le, take_at, drop_at, drop-drop}
use Rattle.lists.specs.Loops.{all_of, none_behind}
use Rattle.messages.specs.Messages.{put}
use Rattle.messages.proofs.Laws.{put_fits}

-- l was written to the front, a is the place after it, and the rest is as it was
pub record Fronted (l : List ℕ) (a : ℕ) (d₀ d : List ℕ) : Type 0 where
  pub place : length l ≡ a
  pub holds : d ≡ l ++ drop a d₀

-- bytes put that are v
put_as : (v w part e : List ℕ) (k : ℕ) → w ≡ v → length v ≡ k → k ≤ length part → e ≡ put w part → e ≡ v ++ drop k part
put_as v w part e k s n h q = q ∙ rw s (rw n at (put_fits v part (omega arith)))

pub fronted_first : (v w d e : List ℕ) (k : ℕ) → w ≡ v → length v ≡ k → k ≤ length d → e ≡ put w d → Fronted v k d e
fronted_first v w d e k s n h q = record { place = n; holds = put_as v w d e k s n h q }

-- the part that starts at place a was lent
pub fronted_more : (l v w d₀ d e : List ℕ) (a k : ℕ) → Fronted l a d₀ d → w ≡ v → length v ≡ k → a + k ≤ length d₀
    → e ≡ put w (take (length d - a) (drop a d)) → Fronted (l ++ v) (a + k) d₀ (take a d ++ (e ++ drop (length d - a) (drop a d)))
fronted_more l v w d₀ d e a k p s n h q =
    let left : drop a d ≡ drop a d₀ = rw p.holds (drop_at l (drop a d₀) a p.place) in
    let front : take a d ≡ l = rw p.holds (take_at l (drop a d₀) a p.place) in
    let part : e ≡ v ++ drop k (drop a d₀) = put_as v w (drop a d₀) e k s n (omega (arith, length-drop a d₀)) (rw (all_of d a, left) at q) in
    record {
      place = length-append l v ∙ omega (arith, p.place);
      holds = rw (none_behind d a, append-nil, front, part, drop-drop) (sym (append_assoc l v (drop (a + k) d₀)));
    }

-- no place is left
pub fronted_all : (l d₀ d : List ℕ) (a : ℕ) → Fronted l a d₀ d → length d₀ ≤ a → d ≡ l
fronted_all l d₀ d a p h = p.holds ∙ rw (drop_of_length-le d₀ h) (append-nil l)

-- bytes that fill the slice
pub put_whole : (bytes part : List ℕ) → length bytes ≡ length part → put bytes part ≡ bytes
put_whole bytes part e = put_fits bytes part (omega arith) ∙ rw (drop_of_length-le part {i = length bytes} (omega arith)) (append-nil bytes)
