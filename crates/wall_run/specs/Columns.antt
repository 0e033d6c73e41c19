-- What becomes of one sound column of a wall: its state, what it says, what it hears and its entry.
use Rattle.std.specs.Prelude.{◌≡◌, List, get_or, drop, replicate}
use Rattle.std.proofs.Math.Path.{refl, ap}
use Rattle.std.proofs.Common.{◌∙◌}
use Prim.Native.Nat.{ℕ, suc, ◌+◌, ◌-◌, ◌*◌, ◌≤◌, ◌<◌}
use native.Mathlib.Omega.{arith}
use Rattle.std.proofs.Math.ListN.{get_or-append}
use Rattle.lists.specs.Lists.{list_of, in_row}
use Rattle.lists.specs.Tests.{is_true}
use Rattle.lists.specs.Entries.{length_list_of, get_d_list_of}
use Rattle.lists.specs.Rows.{row_fits, in_row_rows_of}
use Rattle.field.specs.Field.{blank}
use Rattle.protocols.specs.declared.Protocol.{Protocol}
use Rattle.protocols.specs.Protocols.{values_in}
use Rattle.messages.specs.Messages.{said}
use Rattle.messages.specs.Wall.{Sound}
use Rattle.agreement.specs.declared.Column.{Column}
use Rattle.agreement.specs.Calls.{no_column, speak, written, listen}
use Rattle.machine.specs.Lists.{made as made_with}
use Rattle.agreement.specs.Machine.{machine}
use Rattle.sheet.specs.Sheet.{columns, bytes, sound, record_of}
use Rattle.delivery.specs.declared.Round.{Round}
use Rattle.delivery.specs.Delivery.{mailed, sent, inbox}
use Rattle.wall_run.specs.Run.{column_at, turned, each, made, start, round_at, blanks, spoken, words, words_of, mail, heard, played, after, ended, entry_of, entry_in, entries}
use Rattle.agreement.specs.Entries.{mark_only, sound_entry}
use Rattle.wall_run.specs.Claim.{entry_of_column}

-- what is done to each column
at_each : (n : ℕ) (f : ℕ → Column → Column) (wall : List Column) (i : ℕ) → 1 ≤ i → i ≤ n → column_at (each n f wall) i ≡ f i (column_at wall i)
unfolding column_at each turned
at_each n f wall i l u =
    let e : i - 1 + 1 ≡ i = omega arith in
    get_or-append (list_of (turned f wall) n) (drop n wall) no_column (i - 1) (omega (arith, length_list_of (turned f wall) n))
    ∙ get_d_list_of (turned f wall) n (i - 1) no_column (omega arith) ∙ ap (λ (j : ℕ). f j (get_or wall (i - 1) no_column)) e

module _ (p : Protocol) (sheet : List ℕ) where
  abbrev n : ℕ
  n = columns sheet

  abbrev m : ℕ
  m = bytes sheet

  -- the slices of the calls in round r: to speak, and of column i to listen
  unfoldable pub lent : ℕ → List ℕ
  lent r = blanks n (values_in p n m r)

  unfoldable pub delivered : ℕ → ℕ → List ℕ
  delivered i r = inbox sheet (round_at p sheet r) (mail sheet (values_in p n m r) (after p sheet (r - 1))) i

  module _ (i : ℕ) (si : Sound n (sound sheet) i) where
    -- it is made
    pub at_start : column_at (after p sheet 0) i ≡ made_with (machine p) n m (record_of sheet) i
    unfolding after start column_at made made_with
    at_start =
        let e : i - 1 + 1 ≡ i = omega (arith, si.0) in
        get_or-append (list_of (made p sheet) n) (drop n (replicate 31 no_column)) no_column (i - 1) (omega (arith, si.0, si.1, length_list_of (made p sheet) n))
        ∙ get_d_list_of (made p sheet) n (i - 1) no_column (omega (arith, si.0, si.1)) ∙ ap (made_with (machine p) n m (record_of sheet)) e

    called : (w : ℕ) (round : Round) (letters : List ℕ) (c : Column)
        → heard sheet round letters i (spoken sheet w i c) ≡ (listen (speak c (blanks n w)).column (inbox sheet round letters i)).column
    unfolding heard spoken
    called w round letters c = rw (is_true (sound sheet i) si.2) refl

    -- in each round it speaks, then it listens
    pub at_next : (q : ℕ) → column_at (after p sheet (suc q)) i ≡ (listen (speak (column_at (after p sheet q) i) (lent (suc q))).column (delivered i (suc q))).column
    unfolding after played round_at lent delivered
    at_next q =
        let w = values_in p n m (suc q) in
        let round = round_at p sheet (suc q) in
        let letters = mail sheet w (after p sheet q) in
        let e : q ≡ suc q - 1 = omega arith in
        at_each n (heard sheet round letters) (each n (spoken sheet w) (after p sheet q)) i si.0 si.1
        ∙ ap (heard sheet round letters i) (at_each n (spoken sheet w) (after p sheet q) i si.0 si.1)
        ∙ called w round letters (column_at (after p sheet q) i)
        ∙ ap (λ (r : ℕ). (listen (speak (column_at (after p sheet q) i) (blanks n w)).column (inbox sheet round (mail sheet w (after p sheet r)) i)).column) e

    -- its entry
    pub entry_is : entry_of_column (entries p sheet) i ≡ sound_entry (column_at (ended p sheet) i)
    unfolding entry_of_column entries entry_in entry_of column_at
    entry_is =
        let e : i - 1 + 1 ≡ i = omega (arith, si.0) in
        get_d_list_of (entry_in sheet (ended p sheet)) n (i - 1) (mark_only 0) (omega (arith, si.0, si.1)) ∙ rw (e, is_true (sound sheet i) si.2) refl

  -- what a sound column j wrote, as its row of the mail
  words_are : (w : ℕ) (wall : List Column) (j k : ℕ) → Sound n (sound sheet) j → words_of sheet w wall j k ≡ get_or (written (column_at wall j) (blanks n w)) k blank
  unfolding words_of words said
  words_are w wall j k sj = rw (is_true (sound sheet j) sj.2) refl

  from_sound : (round : Round) (letters : List ℕ) (i j k : ℕ) → Sound n (sound sheet) j
      → sent sheet round letters i j k ≡ in_row (n * round.width) letters j ((i - 1) * round.width + k) blank
  unfolding sent mailed said
  from_sound round letters i j k sj =
      let e : ((j - 1) * n + (i - 1)) * round.width + k ≡ (j - 1) * (n * round.width) + ((i - 1) * round.width + k) = omega arith in
      rw (is_true (sound sheet j) sj.2, e) refl

  -- what a sound column gets from another in a round is what that one wrote for it
  pub mail_is : (q i j k : ℕ) → Sound n (sound sheet) i → Sound n (sound sheet) j → k < values_in p n m (suc q)
      → in_row (values_in p n m (suc q)) (delivered i (suc q)) j k blank ≡ in_row (values_in p n m (suc q)) (written (column_at (after p sheet q) j) (lent (suc q))) i k blank
  unfolding delivered round_at inbox mail lent
  mail_is q i j k si sj l =
      let w = values_in p n m (suc q) in
      let before = after p sheet (suc q - 1) in
      let e : suc q - 1 ≡ q = omega arith in
      in_row_rows_of (sent sheet (round_at p sheet (suc q)) (mail sheet w before) i) w n j k blank sj.0 sj.1 l
      ∙ from_sound (round_at p sheet (suc q)) (mail sheet w before) i j k sj
      ∙ in_row_rows_of (words_of sheet w before) (n * w) n j ((i - 1) * w + k) blank sj.0 sj.1 (omega (arith, si.0, si.1, row_fits w (i - 1) n (omega (arith, si.0, si.1))))
      ∙ words_are w before j ((i - 1) * w + k) sj
      ∙ ap (λ (r : ℕ). in_row w (written (column_at (after p sheet r) j) (blanks n w)) i k blank) e
