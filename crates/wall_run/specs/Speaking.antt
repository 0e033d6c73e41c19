-- The mail of a round while it is written: blank where no column has spoken yet.
use Rattle.std.specs.Prelude.{◌≡◌, refl, Bool, true, false, cond, List, ◌++◌, ℕ, ◌+◌, ◌-◌, ◌*◌, ◌≤◌, ◌<◌, eqb, length, take, drop, replicate}
use Rattle.std.proofs.Common.{ap, sym, ◌∙◌, arith, eqb-true, length-drop, take-append-drop, ext_get_or, length-take-le, get_or-take, get_or-drop, take-take, drop_at}
use Rattle.std.proofs.lemmas.List.{length-replicate, get_or-replicate}
use Rattle.field.specs.Field.{blank}
use Rattle.lists.specs.Lists.{list_of, rows_of}
use Rattle.lists.specs.Entries.{list_of_get_d}
use Rattle.lists.specs.Rows.{length_rows_of}
use Rattle.lists.specs.Loops.{Rowed, rowed_fits}
use Rattle.protocols.specs.Protocols.{values_in, kind_in}
use Rattle.messages.specs.Messages.{said, unless_refused}
use Rattle.messages.proofs.Laws.{accepted}
use Rattle.agreement.specs.declared.Column.{Column}
use Rattle.agreement.specs.Rounds.{message, outgoing}
use Rattle.agreement.specs.Calls.{round_of, when_speaking, in_state, in_round, speak_refusal, written}
use Rattle.wall_run.specs.Run.{blanks}

-- room for what all columns say, all of it blank
pub record Space (n w : ℕ) (mail : List ℕ) : Type 0 where
  pub few : n ≤ 31
  pub narrow : n * w ≤ 992
  pub blank_all : mail ≡ replicate (n * (n * w)) blank

-- a part of blanks is blanks
part_blank : (a k len : ℕ) → a + k ≤ len → take k (drop a (replicate len blank)) ≡ replicate k blank
part_blank a k len h =
    let size : length (drop a (replicate len blank)) ≡ len - a = length-drop a (replicate len blank) ∙ ap (λ (x : ℕ). x - a) (length-replicate len blank) in
    let fits : k ≤ length (drop a (replicate len blank)) = omega (arith, size) in
    ext_get_or 0 (take k (drop a (replicate len blank))) (replicate k blank) (length-take-le k (drop a (replicate len blank)) fits ∙ sym (length-replicate k blank)) (λ i l.
    let i_in : i < k = omega (arith, length-take-le k (drop a (replicate len blank)) fits) in
    get_or-take k (drop a (replicate len blank)) i 0 i_in ∙ get_or-drop a (replicate len blank) i 0 ∙ get_or-replicate len (a + i) blank 0 (omega arith) ∙ sym (get_or-replicate k i blank 0 i_in))

-- as the part of a column that has not spoken is
pub blank_part : (f : ℕ → ℕ → ℕ) (n w : ℕ) (d₀ d : List ℕ) (j a : ℕ) → d₀ ≡ replicate (n * (n * w)) blank → Rowed f (n * w) n d₀ d j → j < n → a ≡ j * (n * w)
    → take (n * w) (take (length d - a) (drop a d)) ≡ blanks n w
unfolding blanks
blank_part f n w d₀ d j a e p l t =
    let fits : j * (n * w) + n * w ≤ length d = rowed_fits f (n * w) n d₀ d j p l in
    let left : drop (j * (n * w)) d ≡ drop (j * (n * w)) d₀ =
    ap (drop (j * (n * w))) p.holds ∙ drop_at (rows_of f (n * w) j) (drop (j * (n * w)) d₀) (j * (n * w)) (length_rows_of f (n * w) j) in
    take-take (n * w) (length d - a) (drop a d) (omega arith)
    ∙ ap (λ (a : ℕ). take (n * w) (drop a d)) t
    ∙ ap (take (n * w)) (left ∙ ap (drop (j * (n * w))) e)
    ∙ part_blank (j * (n * w)) (n * w) (n * (n * w)) (omega (arith, p.size, p.same))

-- a column that does not speak leaves its part as it is
pub not_said : (n w : ℕ) (part : List ℕ) → take (n * w) part ≡ blanks n w → list_of (said (blanks n w)) (n * w) ++ drop (n * w) part ≡ part
unfolding blanks said
not_said n w part e =
    ap (λ (front : List ℕ). front ++ drop (n * w) part) (list_of_get_d (replicate (n * w) blank) (n * w) blank (length-replicate (n * w) blank) ∙ sym e) ∙ take-append-drop (n * w) part

-- what a call to speak leaves is as long as the slice that it was lent
written_length : (c : Column) (out : List ℕ) → length (written c out) ≡ length out
unfolding written unless_refused speak_refusal in_round outgoing
written_length c out = go (eqb (speak_refusal c (length out)) 0) refl
  where
    go : (b : Bool) → eqb (speak_refusal c (length out)) 0 ≡ b → length (cond b (outgoing c (round_of c.stage)) out) ≡ length out
    go true e =
        length_rows_of (λ j. said (message (kind_in c.protocol c.n (round_of c.stage)) c j)) (values_in c.protocol c.n c.m (round_of c.stage)) c.n
        ∙ sym (accepted (in_state c (when_speaking c.stage)) c.n (values_in c.protocol c.n c.m (round_of c.stage)) (length out) (eqb-true _ 0 e)).1
    go false e = refl

-- a column that speaks fills its part: `out` is what the call left in the front of it
pub all_said : (c : Column) (n w len : ℕ) (part out : List ℕ) → len ≡ n * w → take (n * w) part ≡ blanks n w → out ≡ written c (take len part)
    → out ++ drop len part ≡ list_of (said (written c (blanks n w))) (n * w) ++ drop (n * w) part
unfolding said blanks
all_said c n w len part out e front is =
    let wrote : out ≡ written c (blanks n w) = is ∙ ap (λ (k : ℕ). written c (take k part)) e ∙ ap (written c) front in
    let size : length (written c (blanks n w)) ≡ n * w = written_length c (blanks n w) ∙ length-replicate (n * w) blank in
    rw (wrote, e) (ap (λ (l : List ℕ). l ++ drop (n * w) part) (sym (list_of_get_d (written c (blanks n w)) (n * w) blank size)))
