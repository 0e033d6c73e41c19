-- The calls of a wall run that is not refused are a run of the third demand.
use Rattle.std.specs.Prelude.{◌≡◌, eqb, length, get_or, drop}
use Rattle.std.proofs.Common.{sym, subst, ◌∙◌, le-leb, get_or-drop}
use Rattle.std.proofs.Math.Path.{ap}
use Rattle.std.proofs.Math.Bool.{not}
use mathlib.Core.List.{List, []}
use Prim.Native.Nat.{ℕ, zero, suc, ◌+◌, ◌-◌, ◌*◌, ◌≤◌, ◌<◌}
use native.Mathlib.Omega.{arith}
use Rattle.std.proofs.Math.Dec.{T, T_not}
use Rattle.std.proofs.Math.ListN.{length-replicate}
use Rattle.lists.specs.Lists.{Below, in_row}
use Rattle.lists.specs.Tests.{eq→eqb}
use Rattle.lists.specs.Entries.{below_take}
use Rattle.lists.specs.Rows.{length_rows_of}
use Rattle.lists.specs.Count.{mono}
use Rattle.field.specs.Field.{blank}
use Rattle.protocols.specs.declared.Protocol.{Protocol}
use Rattle.sizes.specs.Sizes.{refusal as refusal_of_sizes}
use Rattle.sizes.proofs.Laws.{not_refused as sizes_accepted, accepted as sizes_inside}
use Rattle.protocols.specs.Protocols.{rounds_in, values_in, line_in, beside}
use Rattle.messages.specs.Wall.{Wall, Sound, Delivered}
use Rattle.agreement.specs.declared.Column.{Column}
use Rattle.agreement.specs.Calls.{speak, written, listen}
use Rattle.machine.specs.Machine.{Call}
use Rattle.machine.specs.Lists.{Item, in_turn, wrote, made, Run}
use Rattle.machine.proofs.Carried.{all_calls, all_allowed}
use Rattle.agreement.specs.Machine.{after as after_call, machine, plain}
use Rattle.agreement.proofs.Course.{course}
use Rattle.agreement.proofs.Runs.{fresh_accepted, fresh_is_made}
use Rattle.agreement.proofs.Walk.{Ready, Walked, walk, speaks_in, listens_in}
use Rattle.sheet.specs.Sheet.{columns, bytes, mark, sound, unsound, unsound_to, record_place, record_of}
use Rattle.sheet.specs.Laws.{Accepted, record_length}
use Rattle.delivery.specs.Delivery.{sent, inbox}
use Rattle.wall_run.specs.Run.{column_at, round_at, blanks, mail, after}
use Rattle.wall_run.specs.Columns.{lent, delivered, at_start, at_next, mail_is}

-- the calls of column i of a wall
abbrev pub calls : Protocol → List ℕ → ℕ → List (Item Call)
calls p sheet = in_turn p (columns sheet) (λ i. lent p sheet) (delivered p sheet)

module _ (p : Protocol) (sheet : List ℕ) {rows : ℕ} (small : Below 256 sheet) (A : Accepted (line_in p (columns sheet) (bytes sheet)) sheet rows) (poster : refusal_of_sizes (columns sheet) (bytes sheet) (beside p) ≡ 0) where
  abbrev n : ℕ
  n = columns sheet

  abbrev m : ℕ
  m = bytes sheet

  -- a column that is not marked 0 is marked 1
  marked : (i : ℕ) → 1 ≤ i → i ≤ n → T (not (sound sheet i)) → T (unsound sheet i)
  unfolding sound unsound
  marked i l u h =
      let e : i - 1 + 1 ≡ i = omega arith in
      let two : mark sheet i < 2 = rw e at (A.well_marked.marks (i - 1) (omega arith)) in
      let other : T (not (eqb (mark sheet i) 0)) = rw (le-leb i n u) at h in
      let nonzero : mark sheet i ≡ 0 → ⊥ = λ z. T_not (eqb (mark sheet i) 0) other (eq→eqb (mark sheet i) 0 z) in
      eq→eqb (mark sheet i) 1 (omega arith)

  wall : Wall n (sound sheet)
  unfolding unsound_to
  wall =
      record {
        low = A.arrays_there.range.columns_low;
        high = A.arrays_there.range.columns_high;
        few = omega (arith, A.well_marked.few, mono (λ i. not (sound sheet i)) (unsound sheet) n marked);
      }

  -- the course of column i
  abbrev pub state : ℕ → ℕ → Column
  state i q = course p n m i (record_of sheet i) (delivered p sheet i) q

  lent_length : (r : ℕ) → length (lent p sheet r) ≡ n * values_in p n m r
  unfolding lent blanks
  lent_length r = length-replicate (n * values_in p n m r) blank

  delivered_length : (i r : ℕ) → length (delivered p sheet i r) ≡ n * values_in p n m r
  unfolding delivered inbox round_at
  delivered_length i r = length_rows_of (sent sheet (round_at p sheet r) (mail sheet (values_in p n m r) (after p sheet (r - 1))) i) (values_in p n m r) n

  module _ (i : ℕ) (si : Sound n (sound sheet) i) where
    full : length (record_of sheet i) ≡ m
    full =
        let e : i - 1 + 1 ≡ i = omega (arith, si.0) in
        rw e at (record_length sheet A.arrays_there (i - 1) (omega (arith, si.0, si.1)))

    bytes_small : Below 256 (record_of sheet i)
    unfolding record_of
    bytes_small = below_take 256 m (drop (record_place n m i) sheet) (omega arith) (λ k. rw (get_or-drop (record_place n m i) sheet k 0) (small (record_place n m i + k)))

    sized : refusal_of_sizes n m i ≡ 0
    sized = sizes_accepted n m i (record { range = A.arrays_there.range; number_low = si.0; number_high = si.1 })

    ready : Ready p n m i (record_of sheet i) (delivered p sheet i) (lent p sheet)
    ready = record { accepted = sized; poster = poster; full = full; out_length = λ r l u. lent_length r; inbox_length = λ r l u. delivered_length i r }

    pub made_is : made (machine p) n m (record_of sheet) i ≡ state i 0
    made_is = fresh_is_made p n m (record_of sheet) (delivered p sheet i) i (fresh_accepted p n m i (record_of sheet i) sized poster full)

    pub walked : Walked p n m i (record_of sheet i) (delivered p sheet i) 0 (calls p sheet i)
    walked = walk p n m i (record_of sheet i) (delivered p sheet i) (lent p sheet) ready

    -- its state in the wall is that of its course
    pub state_is : (q : ℕ) → q ≤ rounds_in p n → column_at (after p sheet q) i ≡ state i q
    unfolding after_call
    state_is zero l = at_start p sheet i si ∙ made_is
    state_is (suc q) l =
        at_next p sheet i si q
        ∙ ap (λ (c : Column). (listen (speak c (lent p sheet (suc q))).column (delivered p sheet i (suc q))).column) (state_is q (omega arith))
        ∙ ap (λ (c : Column). (listen c (delivered p sheet i (suc q))).column) (speaks_in p n m i (record_of sheet i) (delivered p sheet i) (lent p sheet) ready q l).1
        ∙ (listens_in p n m i (record_of sheet i) (delivered p sheet i) (lent p sheet) ready q l).1

    -- and so is what it writes
    written_is : (q : ℕ) → q < rounds_in p n → written (column_at (after p sheet q) i) (lent p sheet (suc q)) ≡ get_or (wrote (machine p) (made (machine p) n m (record_of sheet) i) (calls p sheet i)) q []
    written_is q l =
        ap (λ (c : Column). written c (lent p sheet (suc q))) (state_is q (omega arith))
        ∙ (speaks_in p n m i (record_of sheet i) (delivered p sheet i) (lent p sheet) ready q l).2
        ∙ sym (ap (λ (c : Column). get_or (wrote (machine p) c (calls p sheet i)) q []) made_is ∙ walked.wrote_at q q (omega arith) l)

  -- THE RUN

  mail_at : (q : ℕ) → q < rounds_in p n
      → Delivered n (sound sheet) (values_in p n m (suc q)) (λ j. get_or (wrote (machine p) (made (machine p) n m (record_of sheet) j) (calls p sheet j)) q []) (λ i. delivered p sheet i (suc q))
  unfolding Delivered
  mail_at q l i j k si sj ne h =
      mail_is p sheet q i j k si sj h ∙ ap (λ (s : List ℕ). in_row (values_in p n m (suc q)) s i k blank) (written_is j sj q l)

  pub run : Run (machine p) p n m (sound sheet) (record_of sheet) (calls p sheet) (λ i. lent p sheet) (delivered p sheet)
  run =
      record {
        wall = wall;
        bytes_low = A.arrays_there.range.bytes_low;
        bytes_high = A.arrays_there.range.bytes_high;
        poster_low = (sizes_inside n m (beside p) poster).number_low;
        poster_high = (sizes_inside n m (beside p) poster).number_high;
        records = λ i si. (full i si, bytes_small i si);
        calls_in_turn = λ i si. all_calls (machine p) (plain p) _;
        out_length = λ i r si l u. lent_length r;
        inbox_length = λ i r si l u. delivered_length i r;
        extras = λ i si. all_allowed (machine p) (plain p) (made (machine p) n m (record_of sheet) i) _;
        mail = λ r l u.
            let e : suc (r - 1) ≡ r = omega arith in
            subst (λ (x : ℕ). Delivered n (sound sheet) (values_in p n m x) (λ j. get_or (wrote (machine p) (made (machine p) n m (record_of sheet) j) (calls p sheet j)) (r - 1) []) (λ i. delivered p sheet i x)) e
            (mail_at (r - 1) (omega arith));
      }
