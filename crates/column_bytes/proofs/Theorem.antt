-- THE THIRD DEMAND, THE FIRST SOUND KING AND DEFINITION 3.10, proved of the calls for C and Rust: `bytes_demand`, `bytes_settled`, `bytes_posted`. They
-- do what the column's calls do (`simulates`): a state's bytes are the column that they are written for.
use Rattle.std.proofs.Math.Path.{◌≡◌, refl, sym, ap, ap₂}
use Rattle.std.proofs.Common.{◌∙◌, arith, ne_eqb, eqb-true, lt-ltb, eqb→eq, T_not, take-append-drop, take_at}
use Rattle.std.specs.Prelude.{Bool, not, ℕ, ◌<◌, T, length, take, replicate}
use Rattle.std.proofs.Math.Bool.{true, false, cond}
use mathlib.Core.List.{List}
use Rattle.std.proofs.lemmas.Bool.{eqb-false}
use Rattle.std.proofs.Math.Dec.{eqb}
use Rattle.lists.specs.Tests.{eq→eqb}
use Rattle.protocols.specs.declared.Protocol.{Protocol}
use Rattle.protocols.specs.declared.Protocol.TheVariants.{Agreement, Posting}
use Rattle.sizes.proofs.Laws.{accepted as sizes_inside}
use Rattle.protocols.specs.Protocols.{rounds_in, beside}
use Rattle.protocols.proofs.Laws.{number_read}
use Rattle.messages.specs.Messages.{refusal, unless_refused}
use Rattle.messages.proofs.Laws.{refused_before, not_refused, if_done}
use Rattle.machine.specs.Machine.{Call, Speaks, Listens, Asks}
use Rattle.machine.specs.Lists.{turns, in_turn, is_asking, idle, Run, EveryRun}
use Rattle.machine.specs.Claim.{Demand}
use Rattle.machine.specs.Settled.{Settled}
use Rattle.machine.specs.Gradecast.{Posted}
use Rattle.machine.specs.Simulates.{Makes, Simulates}
use Rattle.machine.proofs.Carried.{demand_carried, settled_carried, posted_carried}
use Rattle.machine.proofs.Lifted.{all_lifted, lifted}
use Rattle.agreement.specs.Replies.{Ended, Refused}
use Rattle.agreement.specs.declared.Column.{Column}
use Rattle.agreement.specs.Calls.{or_else, refusal_of, answered, fresh_refusal, outcome_refusal, ending, reply_of, outcome, refusal_in}
use Rattle.agreement.specs.Calls as C
use Rattle.agreement.specs.Machine as A
use Rattle.agreement.proofs.Turns.{answer_is, refused_state}
use Rattle.agreement.proofs.Runs.{fresh_accepted}
use Rattle.agreement.proofs.Heard.{Shaped}
use Rattle.agreement.proofs.Shapes.{fresh_shaped, after_shaped}
use Rattle.agreement.proofs.Theorem.{third_demand}
use Rattle.agreement.proofs.Settling.{settles}
use Rattle.agreement.proofs.Posting.{posts}
use Rattle.agreement.specs.declared.Entry.{Entry}
use Rattle.agreement.specs.Entries.{entry_asked, sound_entry, ended_on}
use Rattle.agreement.proofs.Endings.{ends_as}
use Rattle.state_bytes.specs.Layout.{Grade, Vote, state_length, part, joined, encode, number, decode}
use Rattle.state_bytes.specs.Entry.{entry_length, read_entry}
use Rattle.state_bytes.proofs.Inverse.{decode_encode, encode_is_state, entry_read}
use Rattle.column_bytes.specs.Calls.{narrow, state_refusal, numbered, fresh_answer, fresh_state, speak_answer, speak_state, speak_out, listen_answer, listen_state, outcome_answer, outcome_out}
use Rattle.column_bytes.proofs.Laws.{state_accepted, of_state}
use Rattle.column_bytes.proofs.Refused.{speak_refused, listen_refused}
use Rattle.column_bytes.specs.Machine.{Lent, whole, other, lent, left, is_whole, BytesCall, speaks, listens, asks, call_of, required, answer, after, slice_after, entry_after, narrowed, machine}

-- A CALL THAT IS REFUSED, OR FOR THE OUTCOME, leaves the state as it was, whatever it was lent

-- what was lent, put back
put_back : (x : Lent) (state : List ℕ) → left x state (lent x state) ≡ state
unfolding left lent
put_back whole state = refl
put_back (other k behind) state = rw (take_at (take k state) behind (length (take k state)) refl) (take-append-drop k state)

nonzero : (why : ℕ) → T (not (eqb why 0)) → why ≡ 0 → ⊥
nonzero why h e = T_not (eqb why 0) h (eq→eqb why 0 e)

idle_left : (p : Protocol) (slot : ℕ → List ℕ) (state : List ℕ) (k : BytesCall) → T (idle (machine p slot) state k) → after state k ≡ state
unfolding idle is_asking after answer call_of
idle_left p slot state (speaks x out) h =
    let l = lent x state in
    ap (left x state) (speak_refused l out (nonzero (speak_answer l out) h)).0 ∙ put_back x state
idle_left p slot state (listens x inbox) h =
    let l = lent x state in
    ap (left x state) (listen_refused l inbox (nonzero (listen_answer l inbox) h)) ∙ put_back x state
idle_left p slot state (asks x row) h = refl

-- so a slice for the state of any other length may stand in a list, in any call: it is refused
unfoldable pub slice_of : BytesCall → Lent
slice_of (speaks x out) = x
slice_of (listens x inbox) = x
slice_of (asks x row) = x

no_length : (state : List ℕ) → (length state ≡ state_length → ⊥) → (why : ℕ) → numbered state why ≡ 4
unfolding numbered state_refusal or_else
no_length state h why = rw (ne_eqb (length state) state_length h) refl

pub other_refused : (state : List ℕ) (k : BytesCall) → (length (lent (slice_of k) state) ≡ state_length → ⊥) → answer state k ≡ 4
unfolding slice_of answer speak_answer listen_answer outcome_answer
other_refused state (speaks x out) h = no_length (lent x state) h _
other_refused state (listens x inbox) h = no_length (lent x state) h _
other_refused state (asks x row) h = rw (no_length (lent x state) h (outcome_refusal (decode (lent x state)))) (refused_before 4 1 entry_length (length row) (λ z. omega arith))

-- A CALL WITH SLICES OF THE REQUIRED LENGTH

-- the refusal of a call for the outcome, by its reply
reply_refusal : (c : Column) → refusal_in (outcome c).reply ≡ outcome_refusal c
unfolding outcome reply_of refusal_in
reply_refusal c = go (eqb (outcome_refusal c) 0) refl
  where
    go : (b : Bool) → eqb (outcome_refusal c) 0 ≡ b → refusal_in (cond b (Ended (ending c.stage)) (Refused (outcome_refusal c))) ≡ outcome_refusal c
    go true e = sym (eqb-true (outcome_refusal c) 0 e)
    go false e = refl

-- with a slice of an entry's length
of_length : (why : ℕ) (row : List ℕ) → length row ≡ entry_length → refusal why 1 entry_length (length row) ≡ why
unfolding refusal
of_length why row l = rw l (go (eqb why 0) refl)
  where
    go : (b : Bool) → eqb why 0 ≡ b → cond b 0 why ≡ why
    go true e = sym (eqb-true why 0 e)
    go false e = refl

module _ (c : Column) (s : Shaped c) where
  numbered_is : (why : ℕ) → numbered (encode c) why ≡ why
  numbered_is why = of_state (encode c) why (state_accepted (encode c) (encode_is_state c s))

  -- the column that a state's bytes are
  same_refusal : (k : BytesCall) → T (required k) → answer (encode c) k ≡ A.refusal_at c (call_of k)
  unfolding required is_whole answer lent call_of A.refusal_at speak_answer listen_answer outcome_answer
  same_refusal (speaks whole out) h = numbered_is _ ∙ ap (λ (d : Column). refusal_of (C.speak d out).answer) (decode_encode c s)
  same_refusal (speaks (other k behind) out) h = absurd h
  same_refusal (listens whole inbox) h = numbered_is _ ∙ ap (λ (d : Column). refusal_of (C.listen d inbox).answer) (decode_encode c s)
  same_refusal (listens (other k behind) inbox) h = absurd h
  same_refusal (asks whole row) h =
      of_length _ row (eqb→eq (length row) entry_length h) ∙ numbered_is _ ∙ ap outcome_refusal (decode_encode c s) ∙ sym (reply_refusal c)
  same_refusal (asks (other k behind) row) h = absurd h

  same_slice : (k : BytesCall) → T (required k) → slice_after (encode c) k ≡ A.slice_after c (call_of k)
  unfolding required is_whole slice_after lent call_of A.slice_after speak_out
  same_slice (speaks whole out) h = rw (encode_is_state c s, decode_encode c s) refl
  same_slice (speaks (other k behind) out) h = absurd h
  same_slice (listens x inbox) h = refl
  same_slice (asks x row) h = refl

  -- a refused call leaves the state as it came
  kept : (call : Call) → unless_refused (A.refusal_at c call) (encode (A.after c call)) (encode c) ≡ encode (A.after c call)
  unfolding unless_refused
  kept call = go (eqb (A.refusal_at c call) 0) refl
    where
      go : (b : Bool) → eqb (A.refusal_at c call) 0 ≡ b → cond b (encode (A.after c call)) (encode c) ≡ encode (A.after c call)
      go true e = refl
      go false e = ap (λ (d : Column). encode d) (sym (refused_state c call (eqb-false (A.refusal_at c call) 0 e)))

  same_after : (k : BytesCall) → T (required k) → after (encode c) k ≡ encode (A.after c (call_of k))
  unfolding required is_whole answer after left lent call_of A.after A.refusal_at speak_state listen_state outcome
  same_after (speaks whole out) h =
      ap₂ {C = List ℕ} (λ why d. unless_refused why (encode (C.speak d out).column) (encode c)) (same_refusal (speaks whole out) h) (decode_encode c s) ∙ kept (Speaks out)
  same_after (speaks (other k behind) out) h = absurd h
  same_after (listens whole inbox) h =
      ap₂ {C = List ℕ} (λ why d. unless_refused why (encode (C.listen d inbox).column) (encode c)) (same_refusal (listens whole inbox) h) (decode_encode c s) ∙ kept (Listens inbox)
  same_after (listens (other k behind) inbox) h = absurd h
  same_after (asks x row) h = refl

  -- an outcome that is answered is the column's entry
  same_entry : (k : BytesCall) → T (required k) → call_of k ≡ Asks → answer (encode c) k ≡ 0 → read_entry (entry_after (encode c) k) ≡ sound_entry c
  unfolding required is_whole answer entry_after lent call_of outcome_out
  same_entry (speaks x out) h e done = let z : ◌≡◌ {A = ℕ} 0 1 = cc in absurd (omega arith)
  same_entry (listens x inbox) h e done = let z : ◌≡◌ {A = ℕ} 0 1 = cc in absurd (omega arith)
  same_entry (asks whole row) h e done = ap read_entry (if_done _ _ row done ∙ rw (decode_encode c s) refl) ∙ entry_read (sound_entry c)
  same_entry (asks (other k behind) row) h e done = absurd h

  same_grade : number (encode c) Grade ≡ c.grade
  unfolding encode joined part
  same_grade = refl

  same_vote : number (encode c) Vote ≡ c.vote
  unfolding encode joined part
  same_vote = refl

-- MADE, in a slice of a state's length

narrow_small : (v : ℕ) → v < 256 → narrow v ≡ v
unfolding narrow
narrow_small v h = simp (lt-ltb v 256 h)

narrowed_small : (p : Protocol) → beside p < 256 → narrowed p ≡ p
unfolding narrowed
narrowed_small p h = number_read p (narrow (beside p)) (λ e. narrow_small (beside p) h)

accepted : (p : Protocol) (n m own : ℕ) (bytes : List ℕ) → Makes p n m own bytes → refusal_of (C.fresh p n m own bytes).answer ≡ 0
unfolding C.fresh answered
accepted p n m own bytes makes = answer_is (fresh_refusal p n m own (length bytes)) ∙ fresh_accepted p n m own bytes makes.own_fits makes.poster_fits makes.full

module _ (p : Protocol) (slot : ℕ → List ℕ) (sized : (i : ℕ) → length (slot i) ≡ state_length) where
  same_fresh : (n m own : ℕ) (bytes : List ℕ) → Makes p n m own bytes
      → ((machine p slot).fresh_refusal n m own bytes ≡ refusal_of (C.fresh p n m own bytes).answer) × ((machine p slot).fresh n m own bytes ≡ encode (C.fresh p n m own bytes).column)
  unfolding fresh_state fresh_answer
  same_fresh n m own bytes makes =
      let a = sizes_inside n m own makes.own_fits in
      let b = sizes_inside n m (beside p) makes.poster_fits in
      rw (narrowed_small p (omega arith), narrow_small n (omega arith), narrow_small m (omega arith), narrow_small own (omega arith))
      (made ∙ sym (accepted p n m own bytes makes), if_done _ _ (slot own) made)
    where
      made : refusal (refusal_of (C.fresh p n m own bytes).answer) 1 state_length (length (slot own)) ≡ 0
      made = not_refused _ 1 state_length (length (slot own)) (accepted p n m own bytes makes) (sized own)

  pub simulates : Simulates p (machine p slot) (A.machine p)
  unfolding sound_entry entry_asked
  simulates =
      record {
        plain = A.plain p;
        Is = λ state c. (state ≡ encode c) × Shaped c;
        same_fresh = λ n m own bytes makes. ((same_fresh n m own bytes makes).0, ((same_fresh n m own bytes makes).1, fresh_shaped p n m own bytes));
        same_refusal = λ state c k is h. rw is.0 (same_refusal c is.1 k h);
        same_after = λ state c k is h. (rw is.0 (same_after c is.1 k h), after_shaped c (call_of k) is.1);
        same_written = λ state c k is h. rw is.0 (same_slice c is.1 k h);
        same_told = λ state c k is h e done.
            let entry = ap (λ (state : List ℕ). read_entry (entry_after state k)) is.0 ∙ same_entry c is.1 k h e (rw is.0 at done) in
            (λ m. ap (ended_on m) entry ∙ ends_as m c, ap (λ (e : Entry). e.grade) entry);
        idle_keeps = λ state c k is quiet. (idle_left p slot state k quiet ∙ is.0, is.1);
        same_grade = λ state c is. ap (λ (state : List ℕ). number state Grade) is.0 ∙ same_grade c is.1;
      }

-- THE THEOREMS: columns made in slices of a state's length
module _ (slot : ℕ → List ℕ) (sized : (i : ℕ) → length (slot i) ≡ state_length) where
  pub bytes_demand : EveryRun (machine Agreement slot) Agreement (Demand (machine Agreement slot))
  bytes_demand = demand_carried (simulates Agreement slot sized) (λ n m H held out inbox R. third_demand n m H held (in_turn Agreement n out inbox) out inbox R)

  pub bytes_settled : EveryRun (machine Agreement slot) Agreement (Settled (machine Agreement slot) (λ state. number state Vote))
  unfolding simulates
  bytes_settled =
      settled_carried (simulates Agreement slot sized) (λ state. number state Vote) (λ c. c.vote) (λ state c is. ap (λ (state : List ℕ). number state Vote) is.0 ∙ same_vote c is.1)
      (λ n m H held out inbox R. settles n m H held (in_turn Agreement n out inbox) out inbox R)

  pub bytes_posted : (s : ℕ) → EveryRun (machine (Posting s) slot) (Posting s) (Posted (machine (Posting s) slot) s)
  bytes_posted s = posted_carried (simulates (Posting s) slot sized) s (λ n m H held out inbox R. posts s n m H held (in_turn (Posting s) n out inbox) out inbox R)

-- THAT THE PREMISES CAN BE MET: by the calls of every run in turn on columns, as those of every wall run are (`run` of `wall_run`)
unfoldable pub lift : Call → BytesCall
lift (Speaks out) = speaks whole out
lift (Listens inbox) = listens whole inbox
lift Asks = asks whole (replicate entry_length 0)

lifts : (call : Call) → (call_of (lift call) ≡ call) × T (required (lift call))
unfolding lift call_of required is_whole
lifts (Speaks out) = (refl, tt)
lifts (Listens inbox) = (refl, tt)
lifts Asks = (refl, tt)

pub bytes_run : (p : Protocol) (slot : ℕ → List ℕ) (sized : (i : ℕ) → length (slot i) ≡ state_length) {n m : ℕ} {H : ℕ → Bool} {held : ℕ → List ℕ} {out inbox : ℕ → ℕ → List ℕ}
    → Run (A.machine p) p n m H held (in_turn p n out inbox) out inbox → Run (machine p slot) p n m H held (λ i. all_lifted lift (turns (out i) (inbox i) 1 (rounds_in p n))) out inbox
bytes_run p slot sized R = lifted (simulates p slot sized) lift lifts R
