-- The courses of the sound columns of a wall, taken together: what each hears is what the others say.
use Rattle.std.specs.Prelude.{◌≡◌, Bool, List, ℕ, suc, ◌+◌, ◌≤◌, ◌<◌}
use Rattle.std.proofs.Math.Path.{ap, fun_ext}
use Rattle.std.proofs.Common.{◌∙◌, arith}
use Rattle.lists.specs.Lists.{rows_of}
use Rattle.block.specs.Block.{part}
use Rattle.protocols.specs.declared.Protocol.{Protocol}
use Rattle.messages.specs.Messages.{said}
use Rattle.messages.specs.Wall.{Wall, Sound, Delivered}
use Rattle.messages.proofs.Delivery.{delivered_as}
use Rattle.codeword.specs.Codeword.{Held}
use Rattle.agreement.specs.declared.Stage.TheVariants.{Speak}
use Rattle.agreement.specs.declared.Column.{Column}
use Rattle.protocols.specs.declared.Kind.{Kind}
use Rattle.protocols.specs.Protocols.{width, rounds_in, kind_in, values_in}
use Rattle.protocols.proofs.Laws.{values_are}
use Rattle.agreement.specs.Rounds.{message, outgoing, hears}
use Rattle.agreement.proofs.Heard.{Is}
use Rattle.agreement.proofs.Course.{course, listening, course_is}

-- the messages of a round of a known kind
outgoing_is : (p : Protocol) (n m own : ℕ) (c : Column) (round : ℕ) (kind : Kind) → Is p n m own c → 1 ≤ round → round ≤ rounds_in p n → kind_in p n round ≡ kind
    → outgoing c round ≡ rows_of (λ j. said (message kind c j)) (width n m kind) n
unfolding outgoing
outgoing_is p n m own c round kind is l h e =
    ap (λ (p : Protocol). rows_of (λ j. said (message (kind_in p c.n round) c j)) (values_in p c.n c.m round) c.n) is.protocol_is
    ∙ ap (λ (x : ℕ). rows_of (λ j. said (message (kind_in p x round) c j)) (values_in p x c.m round) x) is.n_is
    ∙ ap (λ (x : ℕ). rows_of (λ j. said (message (kind_in p n round) c j)) (values_in p n x round) n) is.m_is
    ∙ ap (λ (w : ℕ). rows_of (λ j. said (message (kind_in p n round) c j)) w n) (values_are p n m round l h)
    ∙ ap (λ (k : Kind). rows_of (λ j. said (message k c j)) (width n m k) n) e

-- the sound columns of a wall, round by round
pub record Courses (p : Protocol) (n m : ℕ) (H : ℕ → Bool) (held : ℕ → List ℕ) (inbox : ℕ → ℕ → List ℕ) : Type 0 where
  pub wall : Wall n H
  pub bytes_low : 1 ≤ m
  pub bytes_high : m ≤ 32
  pub records : (i : ℕ) → Sound n H i → Held m (part (held i) 0 32)
  pub delivered : (q : ℕ) → q < rounds_in p n → Delivered n H (values_in p n m (suc q)) (λ j. outgoing (course p n m j (held j) (inbox j) q) (suc q)) (λ i. inbox i (suc q))

module _ {p : Protocol} {n m : ℕ} {H : ℕ → Bool} {held : ℕ → List ℕ} {inbox : ℕ → ℕ → List ℕ} (C : Courses p n m H held inbox) where
  -- column i after q rounds
  abbrev pub state : ℕ → ℕ → Column
  state i q = course p n m i (held i) (inbox i) q

  -- the record that it held at the start, in its 32 places
  abbrev pub places : ℕ → List ℕ
  places i = part (held i) 0 32

  pub is : (i q : ℕ) → Is p n m i (state i q)
  is i q = course_is p n m i (held i) (inbox i) q

  -- a round of a known kind
  pub next : (i q : ℕ) (kind : Kind) → kind_in p n (suc q) ≡ kind → state i (suc q) ≡ hears kind (Speak (suc q + 1)) (listening p n m i (held i) (inbox i) q) (inbox i (suc q))
  unfolding course
  next i q kind e = ap (λ (k : Kind). hears k (Speak (suc q + 1)) (listening p n m i (held i) (inbox i) q) (inbox i (suc q))) e

  -- and what is delivered in it, where column j's messages are told otherwise
  pub sent : (q : ℕ) (kind : Kind) (told : ℕ → ℕ → List ℕ) → q < rounds_in p n → kind_in p n (suc q) ≡ kind → ((j i : ℕ) → Sound n H j → message kind (state j q) i ≡ told j i)
      → Delivered n H (width n m kind) (λ j. rows_of (λ i. said (told j i)) (width n m kind) n) (λ i. inbox i (suc q))
  sent q kind told l e f =
      delivered_as n H (values_in p n m (suc q)) (width n m kind) (λ j. outgoing (state j q) (suc q)) (λ j. rows_of (λ i. said (told j i)) (width n m kind) n) (λ i. inbox i (suc q))
      (values_are p n m (suc q) (omega arith) l ∙ ap (width n m) e) (λ j sj.
      outgoing_is p n m j (state j q) (suc q) kind (is j q) (omega arith) l e
      ∙ ap (λ (g : ℕ → List ℕ). rows_of (λ i. said (g i)) (width n m kind) n) (fun_ext (λ i. f j i sj))) (C.delivered q l)

  -- the slices of a round
  abbrev pub of : ℕ → ℕ → List ℕ
  of round i = inbox i round
