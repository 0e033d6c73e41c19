-- The entry of a sound column shows what its calls came to.
use Rattle.std.specs.Prelude.{◌≡◌, Bool, cond, List, ℕ, ◌+◌, ◌-◌, ◌≤◌, ◌<◌, get_or, drop, replicate}
use Rattle.std.proofs.Math.Path.{refl}
use Rattle.std.proofs.Common.{sym, ap, ◌∙◌, le_refl}
use Rattle.std.proofs.Math.Bool.{true, false}
use native.Mathlib.Omega.{arith}
use Rattle.std.proofs.Math.Decide.{dec_lt}
use Rattle.std.proofs.Math.ListN.{length, get_or-append, get_or-eq_default}
use Rattle.lists.specs.Lists.{Below, list_of}
use Rattle.lists.specs.Tests.{passes}
use Rattle.lists.specs.Entries.{length_list_of, get_d_list_of}
use Rattle.protocols.specs.declared.Protocol.{Protocol}
use Rattle.sizes.specs.Sizes.{refusal as refusal_of_sizes}
use Rattle.protocols.specs.Protocols.{rounds_in, line_in, beside}
use Rattle.messages.specs.Wall.{Sound}
use Rattle.agreement.specs.declared.Column.{Column}
use Rattle.agreement.specs.Calls.{fresh, no_column}
use Rattle.machine.specs.Lists.{final, made}
use Rattle.agreement.specs.Machine.{machine}
use Rattle.agreement.proofs.Shapes.{fresh_shaped, final_shaped}
use Rattle.sheet.specs.Sheet.{columns, bytes, mark, sound, record_of}
use Rattle.sheet.specs.Laws.{Accepted}
use Rattle.agreement.specs.Entries.{mark_only, sound_entry}
use Rattle.agreement.proofs.Endings.{entry_bytes_lem}
use Rattle.wall_run.specs.Run.{Outcomes, column_at, ended, entry_of, entry_in, entries, refusal, in_places, settled, outcomes}
use Rattle.wall_run.specs.Row.{accepted_run, run_settled}
use Rattle.wall_run.specs.Claim.{entry_of_column}
use Rattle.wall_run.specs.Columns.{entry_is}
use Rattle.wall_run.specs.Played.{calls, state, made_is, walked, state_is}

module _ (p : Protocol) (sheet : List ℕ) {rows : ℕ} (small : Below 256 sheet) (A : Accepted (line_in p (columns sheet) (bytes sheet)) sheet rows)
    (poster : refusal_of_sizes (columns sheet) (bytes sheet) (beside p) ≡ 0) (i : ℕ) (si : Sound (columns sheet) (sound sheet) i) where
  -- the state of its course at the end, and that of its list of calls
  pub last_is : column_at (ended p sheet) i ≡ state p sheet small A poster i (rounds_in p (columns sheet))
  unfolding ended
  last_is = state_is p sheet small A poster i si (rounds_in p (columns sheet)) (le_refl (rounds_in p (columns sheet)))

  pub final_is : column_at (ended p sheet) i ≡ final (machine p) (made (machine p) (columns sheet) (bytes sheet) (record_of sheet) i) (calls p sheet i)
  final_is =
      last_is ∙ sym (ap (λ (c : Column). final (machine p) c (calls p sheet i)) (made_is p sheet small A poster i si) ∙ (walked p sheet small A poster i si).ended)

  pub shows : entry_of_column (entries p sheet) i ≡ sound_entry (final (machine p) (made (machine p) (columns sheet) (bytes sheet) (record_of sheet) i) (calls p sheet i))
  shows = entry_is p sheet i si ∙ ap sound_entry final_is

-- what is answered in 31 places has the entries in front
pub outcome_entry : (p : Protocol) (sheet : List ℕ) (rows : ℕ) → refusal p sheet rows ≡ 0 → (i : ℕ) → 1 ≤ i → i ≤ columns sheet
    → entry_of_column (outcomes p sheet rows).entries i ≡ entry_of_column (entries p sheet) i
unfolding entry_of_column settled in_places entries
outcome_entry p sheet rows e i l u =
    ap (λ (o : Outcomes). get_or o.entries (i - 1) (mark_only 0)) (run_settled p sheet rows e)
    ∙ get_or-append (list_of (entry_in sheet (ended p sheet)) (columns sheet)) (drop (columns sheet) (replicate 31 (mark_only 0))) (mark_only 0) (i - 1)
    (omega (arith, length_list_of (entry_in sheet (ended p sheet)) (columns sheet)))

-- EVERY ENTRY HAS 32 RECORD BYTES

module _ (p : Protocol) (sheet : List ℕ) (rows : ℕ) (small : Below 256 sheet) (accepted : refusal p sheet rows ≡ 0) where
  -- a sound column's
  sound_length : (i : ℕ) → Sound (columns sheet) (sound sheet) i → length (sound_entry (column_at (ended p sheet) i)).bytes ≡ 32
  unfolding made
  sound_length i si =
      let (A, poster) = accepted_run p sheet rows accepted in
      let shape = final_shaped p (fresh p (columns sheet) (bytes sheet) i (record_of sheet i)).column (calls p sheet i) (fresh_shaped p (columns sheet) (bytes sheet) i (record_of sheet i)) in
      rw (final_is p sheet small A poster i si) (entry_bytes_lem _ shape.of_bytes)

  pub entry_length_lem : (j : ℕ) → length (get_or (entries p sheet) j (mark_only 0)).bytes ≡ 32
  unfolding entries entry_in entry_of mark_only column_at
  entry_length_lem j = go (dec_lt j (columns sheet))
    where
      by_mark : (b : Bool) → sound sheet (j + 1) ≡ b → j < columns sheet → length (cond b (sound_entry (get_or (ended p sheet) j no_column)) (mark_only (mark sheet (j + 1)))).bytes ≡ 32
      by_mark true e l =
          let at : j + 1 - 1 ≡ j = omega arith in
          rw at at (sound_length (j + 1) (omega arith, omega arith, passes (sound sheet (j + 1)) e))
      by_mark false e l = refl

      go : Dec (j < columns sheet) → length (get_or (list_of (entry_in sheet (ended p sheet)) (columns sheet)) j (mark_only 0)).bytes ≡ 32
      go (yes l) = rw (get_d_list_of (entry_in sheet (ended p sheet)) (columns sheet) j (mark_only 0) l) (by_mark (sound sheet (j + 1)) refl l)
      go (no l) = rw (get_or-eq_default (list_of (entry_in sheet (ended p sheet)) (columns sheet)) (mark_only 0) {n = j} (omega (arith, length_list_of (entry_in sheet (ended p sheet)) (columns sheet)))) refl
