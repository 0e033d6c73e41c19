-- Laws for the code: what is written to a lent slice, and a row of entries on its way.
use Rattle.std.specs.Prelude.{◌≡◌, Bool, true, false, cond, List, [], ◌∷◌, ◌++◌, ℕ, ◌+◌, ◌-◌, ◌*◌, ◌/◌, ◌%◌, ◌≤◌, ◌<◌, eqb, length, take, drop, Option, Some, None, Ok}
use Rattle.std.proofs.Math.Path.{refl, ap₂, sym}
use Rattle.std.proofs.Common.{◌∙◌, append_assoc, append-nil, add-one, arith, eqb-true, length-append, length-drop}
use Rattle.lists.specs.Lists.{list_of}
use Rattle.lists.specs.Entries.{list_of_get_d, list_of_done}
use Rattle.protocols.specs.declared.Protocol.{Protocol}
use Rattle.field.specs.Field.{blank}
use Rattle.messages.specs.Messages.{said, written, put}
use Rattle.messages.proofs.Laws.{written_fits}
use Rattle.decoder.specs.declared.Coefficients.{Coefficients}
use Rattle.decoder.specs.Decoder.{refusal_of, found_in}
use Rattle.sheet.specs.Sheet.{columns}
use Rattle.agreement.specs.declared.Entry.{Entry}
use Rattle.wall_run.specs.Run.{entries, outcomes, outcomes_in}
use Rattle.wall_run.specs.Row.{entry_at, accepted_run, settled_with, in_places_lem}
use Rattle.state_bytes.specs.Entry.{entry_length, entry_bytes}
use Rattle.state_bytes.specs.Writing.{Fronted, fronted_more, fronted_all}
use Rattle.wall_bytes.specs.Calls.{row_bytes, places, wall_answer}

-- a message that fills the slice
pub written_whole : (w : ℕ) (message part : List ℕ) → length message ≡ w → length part ≡ w → written w message part ≡ message
unfolding said
written_whole w message part e l =
    written_fits w message part (omega arith) ∙ list_of_done (said message) w part (omega arith) ∙ list_of_get_d message w blank e

-- ENTRIES, ONE AFTER THE OTHER

row_bytes_append : (es fs : List Entry) → row_bytes (es ++ fs) ≡ row_bytes es ++ row_bytes fs
unfolding row_bytes
row_bytes_append [] fs = refl
row_bytes_append (e ∷ es) fs = rw (row_bytes_append es fs, append_assoc) refl

row_bytes_more : (f : ℕ → Entry) (i : ℕ) → row_bytes (list_of f i) ++ entry_bytes (f i) ≡ row_bytes (list_of f (i + 1))
unfolding list_of row_bytes
row_bytes_more f i = rw (add-one, row_bytes_append, append-nil) refl

-- those of the first i of n columns are written
pub record Entered (es : List Entry) (n : ℕ) (d₀ d : List ℕ) (i : ℕ) : Type 0 where
  pub within : i ≤ n
  pub few : n ≤ 31
  pub size : entry_length * n ≡ length d₀
  pub fronted : Fronted (row_bytes (list_of (entry_at es) i)) (entry_length * i) d₀ d

module _ (es : List Entry) (n : ℕ) where
  pub entered_none : (d : List ℕ) → n ≤ 31 → entry_length * n ≡ length d → Entered es n d d 0
  unfolding list_of row_bytes
  entered_none d h e = record { within = omega arith; few = h; size = e; fronted = record { place = refl; holds = refl } }

  module _ (d₀ d : List ℕ) (i : ℕ) (p : Entered es n d₀ d i) where
    pub entered_same : length d ≡ length d₀
    entered_same = rw (p.fronted.holds, length-append, length-drop) (omega (arith, p.fronted.place, p.within, p.size))

    -- the part from place a on was lent to a call that wrote column i + 1's entry to its front
    pub entered_more : (e : List ℕ) (a : ℕ) → i < n → a ≡ entry_length * i → length (entry_bytes (entry_at es i)) ≡ entry_length
        → e ≡ put (entry_bytes (entry_at es i)) (take (length d - a) (drop a d)) → Entered es n d₀ (take a d ++ (e ++ drop (length d - a) (drop a d))) (i + 1)
    entered_more e a h t whole q =
        let there = fronted_more _ _ _ _ _ _ a entry_length (rw (sym t) at p.fronted) refl whole (omega (arith, p.size)) q in
        let place : a + entry_length ≡ entry_length * (i + 1) = omega arith in
        record { within = omega arith; few = p.few; size = p.size; fronted = rw (row_bytes_more (entry_at es) i, place) at there }

    pub entered_done : n ≤ i → d ≡ row_bytes (list_of (entry_at es) n)
    entered_done h =
        let e : i ≡ n = omega (arith, p.within) in
        rw e at (fronted_all _ d₀ d (entry_length * i) p.fronted (omega (arith, p.size)))

-- A WALL

-- a slice that holds an entry holds entries alone
places_size : (row : List ℕ) → 1 ≤ places row → entry_length * places row ≡ length row
unfolding places
places_size row = go (eqb (length row % entry_length) 0) refl
  where
    go : (b : Bool) → eqb (length row % entry_length) 0 ≡ b → 1 ≤ cond b (length row / entry_length) 0 → entry_length * cond b (length row / entry_length) 0 ≡ length row
    go true e h = omega (arith, eqb-true (length row % entry_length) 0 e)
    go false e h = absurd (omega arith)

-- what a run that returned entries came to
pub record Ran (p : Protocol) (sheet row : List ℕ) (es : List Entry) : Type 0 where
  pub done : wall_answer p sheet row ≡ 0
  pub size : entry_length * places row ≡ length row
  pub few : places row ≤ 31
  pub holds : list_of (entry_at es) (places row) ≡ entries p sheet

pub ran : (p : Protocol) (sheet row : List ℕ) (es : List Entry) → outcomes_in (columns sheet) (Ok es) ≡ outcomes p sheet (places row) → Ran p sheet row es
unfolding wall_answer
ran p sheet row es e =
    let (done, are) = settled_with p sheet (places row) (columns sheet) es e in
    let a = (accepted_run p sheet (places row) done).0 in
    record {
      done = done;
      size = places_size row (omega (arith, a.rows_are, a.arrays_there.range.columns_low));
      few = omega (arith, a.rows_are, a.arrays_there.range.columns_high);
      holds = ap₂ {C = List Entry} (λ es k. list_of (entry_at es) k) are a.rows_are ∙ in_places_lem p sheet;
    }

-- A BLOCK: what was found is not refused
pub found_accepted : (found : Option Coefficients) → refusal_of (found_in found) ≡ 0
unfolding refusal_of
found_accepted None = refl
found_accepted (Some c) = refl
