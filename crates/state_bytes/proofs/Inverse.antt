-- What is written is read back (`decode_encode`, `encode_is_state`), and what reads as a state is written back (`encode_decode`). Of a column this
-- asks no more than its arrays' lengths, so it holds of all states, in range or not.
use Rattle.std.specs.Prelude.{◌≡◌, Bool, cond, ◌||◌, List, ℕ, zero, suc, ◌+◌, ◌-◌, ◌*◌, ◌/◌, ◌%◌, ◌<◌, T, length}
use Rattle.std.proofs.Math.Path.{refl, sym, ap}
use Rattle.std.proofs.Common.{◌∙◌, add-zero, eq-eqb, le-ltb, eqb→eq, ltb→lt}
use Rattle.std.proofs.Math.Bool.{true, false}
use Rattle.std.proofs.Math.Decide.{dec_lt}
use native.Mathlib.Omega.{arith}
use Rattle.std.proofs.Math.Dec.{eqb, ltb}
use Rattle.std.proofs.Math.ListN.{get_or}
use Rattle.lists.specs.Lists.{bit, all, Below, list_of}
use Rattle.lists.specs.Entries.{all_each, each_all, length_list_of, get_d_list_of, list_of_same, list_of_get_d}
use Rattle.lists.specs.Tests.{conj, is_true, passes}
use Rattle.protocols.specs.declared.Protocol.{Protocol}
use Rattle.protocols.specs.Protocols.{beside, posts, protocol_count, number_of, protocol_of}
use Rattle.protocols.proofs.Laws.{number_few, number_read, number_written}
use Rattle.messages.specs.Messages.{word}
use Rattle.agreement.specs.declared.Outcome.TheVariants.{Nothing, Record}
use Rattle.agreement.specs.declared.Stage.{Stage}
use Rattle.agreement.specs.declared.Stage.TheVariants.{Speak, Listen, Ended}
use Rattle.agreement.specs.declared.Column.{Column}
use Rattle.agreement.specs.declared.Entry.{Entry}
use Rattle.agreement.specs.Calls.{round_of}
use Rattle.agreement.proofs.Heard.{Shaped}
use Rattle.state_bytes.specs.Layout.{Part, Version, Runs, Poster, StageKind, Round, Firm, Proposal, Bytes, Agreements, Reports, Kept, parts, offset, length_of, state_length, version}
use Rattle.state_bytes.specs.Layout.{poster_byte, stage_byte, half, flag_byte, point_byte, part, joined, encode, stage_of, byte_from, flag_from, word_from, number}
use Rattle.state_bytes.specs.Layout.{column_of, whole, decode, is_protocol, is_stage, is_flag, are_numbers, flags, is_state}
use Rattle.state_bytes.specs.Entry.{entry_length, entry_bytes, read_entry}
use Rattle.state_bytes.proofs.Parts.{told, lengths, length_parts, at_part, slices, in_parts, one_byte, two_bytes}

-- FLAGS, NUMBERS OF 16 BITS, STAGES: written and read, and the other way round

flag_read : (b : Bool) → (eqb (bit b) 1 ≡ b) × (ltb (bit b) 2 ≡ true)
flag_read true = (refl, refl)
flag_read false = (refl, refl)

flag_written : (v : ℕ) → v < 2 → bit (eqb v 1) ≡ v
flag_written zero h = refl
flag_written (suc zero) h = refl
flag_written (suc (suc v)) h = absurd (omega arith)

word_read : (v : ℕ) → half v 0 + 256 * half v 1 ≡ v
unfolding half
word_read v = omega arith

word_written : (state : List ℕ) (a r : ℕ) → r < 2 → get_or state a 0 < 256 → half (word state a) r ≡ get_or state (a + r) 0
unfolding half word
word_written state a zero h b = rw (add-zero a) (omega arith)
word_written state a (suc zero) h b = omega arith
word_written state a (suc (suc r)) h b = absurd (omega arith)

-- the two bytes of kept point i
pub half_byte : (kept : List ℕ) (i r : ℕ) → r < 2 → half (get_or kept i 0) r ≡ point_byte kept (2 * i + r)
unfolding point_byte
half_byte kept i r h =
    let e : (2 * i + r) / 2 ≡ i = omega arith in
    let o : (2 * i + r) % 2 ≡ r = omega arith in
    rw (e, o) refl

stage_read : (s : Stage) → (stage_of (stage_byte s) (round_of s) ≡ s) × (is_stage (stage_byte s) (round_of s) ≡ true)
unfolding stage_of is_stage stage_byte round_of
stage_read (Speak round) = (refl, refl)
stage_read (Listen round) = (refl, refl)
stage_read (Ended Nothing) = (refl, refl)
stage_read (Ended Record) = (refl, refl)

stage_written : (stage round : ℕ) → T (is_stage stage round) → (stage_byte (stage_of stage round) ≡ stage) × (round_of (stage_of stage round) ≡ round)
unfolding is_stage stage_of stage_byte round_of
stage_written zero round t = (refl, refl)
stage_written (suc zero) round t = (refl, refl)
stage_written (suc (suc zero)) round t = (refl, sym (eqb→eq round 0 t))
stage_written (suc (suc (suc zero))) round t = (refl, sym (eqb→eq round 0 t))
stage_written (suc (suc (suc (suc stage)))) round t =
    absurd (rw (le-ltb (suc (suc (suc (suc stage)))) 2 (omega arith), le-ltb (suc (suc (suc (suc stage)))) 4 (omega arith)) at t)

protocol_read : (p : Protocol) → (protocol_of (number_of p) (poster_byte p) ≡ p) × (is_protocol (number_of p) (poster_byte p) ≡ true)
unfolding is_protocol poster_byte
protocol_read p =
    let is = number_read p (poster_byte p) (λ e. rw e refl) in
    (is, rw (number_few p, is) (go (posts p)))
  where
    go : (b : Bool) → (b || eqb (cond b (beside p) 0) 0) ≡ true
    go true = refl
    go false = refl

protocol_written : (runs poster : ℕ) → T (is_protocol runs poster) → (number_of (protocol_of runs poster) ≡ runs) × (poster_byte (protocol_of runs poster) ≡ poster)
unfolding is_protocol poster_byte
protocol_written runs poster t =
    let few : T (ltb runs protocol_count) = search conj in
    let right : T (posts (protocol_of runs poster) || eqb poster 0) = search conj in
    let is = number_written runs poster few in
    (is.0, go (posts (protocol_of runs poster)) is.1 right)
  where
    go : (b : Bool) → (b ≡ true → beside (protocol_of runs poster) ≡ poster) → T (b || eqb poster 0) → cond b (beside (protocol_of runs poster)) 0 ≡ poster
    go true e h = e refl
    go false e h = sym (eqb→eq poster 0 h)

-- LISTS OF THEM, from place a on

read_back : {A : Type 0} (r : ℕ → A) (l : List A) (n : ℕ) (z : A) → length l ≡ n → ((i : ℕ) → i < n → r i ≡ get_or l i z) → list_of r n ≡ l
read_back r l n z e h = list_of_same r _ n h ∙ list_of_get_d l n z e

module _ (state : List ℕ) (a n : ℕ) where
  flags_read : (l : List Bool) → length l ≡ n → ((i : ℕ) → i < n → get_or state (a + i) 0 ≡ flag_byte l i) → list_of (flag_from state a) n ≡ l
  unfolding flag_from flag_byte
  flags_read l e h = read_back _ l n false e (λ i k. ap (λ (v : ℕ). eqb v 1) (h i k) ∙ (flag_read (get_or l i false)).0)

  flags_written : ((i : ℕ) → i < n → get_or state (a + i) 0 < 2) → list_of (flag_byte (list_of (flag_from state a) n)) n ≡ list_of (byte_from state a) n
  unfolding flag_byte flag_from byte_from
  flags_written h = list_of_same _ _ n (λ i k. ap bit (get_d_list_of (flag_from state a) n i false k) ∙ flag_written (get_or state (a + i) 0) (h i k))

  words_read : (l : List ℕ) → length l ≡ n → ((i : ℕ) → i < 2 * n → get_or state (a + i) 0 ≡ point_byte l i) → list_of (word_from state a) n ≡ l
  unfolding word_from word
  words_read l e h = read_back _ l n 0 e (λ i k.
      let low = h (2 * i + 0) (omega arith) ∙ sym (half_byte l i 0 (omega arith)) in
      let high = h (2 * i + 1) (omega arith) ∙ sym (half_byte l i 1 (omega arith)) in
      let here : a + 2 * i ≡ a + (2 * i + 0) = omega arith in
      let next : a + 2 * i + 1 ≡ a + (2 * i + 1) = omega arith in
      rw (next, here, low, high) (word_read (get_or l i 0)))

  words_written : Below 256 state → list_of (point_byte (list_of (word_from state a) n)) (2 * n) ≡ list_of (byte_from state a) (2 * n)
  unfolding point_byte word_from byte_from
  words_written b = list_of_same _ _ (2 * n) (λ q k.
      ap (λ (v : ℕ). half v (q % 2)) (get_d_list_of (word_from state a) n (q / 2) 0 (omega arith))
      ∙ word_written state (a + 2 * (q / 2)) (q % 2) (omega arith) (b (a + 2 * (q / 2)))
      ∙ ap (λ (j : ℕ). get_or state j 0) (omega arith))

-- WRITTEN AND READ BACK

module _ (c : Column) (s : Shaped c) where
  fits : lengths (part c) parts ≡ told parts
  unfolding part lengths told
  fits = rw s.of_bytes (simp length_list_of)

  length_encode : length (encode c) ≡ state_length
  unfolding encode
  length_encode = length_parts (part c) parts fits

  at : (k : Part) (i : ℕ) → i < length_of k → get_or (encode c) (offset k + i) 0 ≡ get_or (part c k) i 0
  unfolding encode
  at k i h = at_part (part c) parts k i fits h

  -- a part that is a list by an index function
  at_list : (k : Part) (f : ℕ → ℕ) → part c k ≡ list_of f (length_of k) → (i : ℕ) → i < length_of k → get_or (encode c) (offset k + i) 0 ≡ f i
  at_list k f e i h = at k i h ∙ rw e (get_d_list_of f (length_of k) i 0 h)

  column_read : column_of (encode c) ≡ c
  unfolding column_of encode joined part byte_from word
  column_read =
      rw (
        (protocol_read c.protocol).0,
        (stage_read c.stage).0,
        (flag_read c.firm).0,
        word_read c.proposal,
        read_back (byte_from (encode c) (offset Bytes)) c.bytes 32 0 s.of_bytes (at Bytes),
        flags_read (encode c) (offset Agreements) 31 c.agreements s.of_agreements (at_list Agreements (flag_byte c.agreements) refl),
        flags_read (encode c) (offset Reports) 31 c.reports s.of_reports (at_list Reports (flag_byte c.reports) refl),
        words_read (encode c) (offset Kept) 32 c.kept s.of_kept (at_list Kept (point_byte c.kept) refl),
      )
      refl

  are_numbers_lem : are_numbers (encode c) ≡ true
  unfolding are_numbers encode joined part
  are_numbers_lem = simp ((protocol_read c.protocol).1, (stage_read c.stage).1, (flag_read c.firm).1)

  is_flag_lem : (k : Part) (l : List Bool) (i : ℕ) → part c k ≡ list_of (flag_byte l) (length_of k) → i < length_of k → ltb (get_or (encode c) (offset k + i) 0) 2 ≡ true
  unfolding flag_byte
  is_flag_lem k l i e h = ap (λ (v : ℕ). ltb v 2) (at_list k (flag_byte l) e i h) ∙ (flag_read (get_or l i false)).1

  are_flags : (i : ℕ) → i < flags → T (is_flag (encode c) i)
  unfolding is_flag part
  are_flags i h = passes _ (go (dec_lt i (length_of Agreements)))
    where
      go : Dec (i < length_of Agreements) → ltb (get_or (encode c) (offset Agreements + i) 0) 2 ≡ true
      go (yes l) = is_flag_lem Agreements c.agreements i refl l
      go (no l) =
          let e : offset Agreements + i ≡ offset Reports + (i - length_of Agreements) = omega arith in
          rw e (is_flag_lem Reports c.reports (i - length_of Agreements) refl (omega arith))

whole_is : (state : List ℕ) → length state ≡ state_length → whole state ≡ state
unfolding whole
whole_is state e = list_of_get_d state state_length 0 e

pub decode_encode : (c : Column) → Shaped c → decode (encode c) ≡ c
unfolding decode
decode_encode c s = ap column_of (whole_is (encode c) (length_encode c s)) ∙ column_read c s

pub encode_is_state : (c : Column) → Shaped c → is_state (encode c) ≡ true
unfolding is_state
encode_is_state c s =
    simp (eq-eqb _ state_length (length_encode c s), are_numbers_lem c s, is_true (all (is_flag (encode c)) flags) (each_all _ flags (are_flags c s)))

-- READ AND WRITTEN BACK

column_written : (state : List ℕ) → Below 256 state → T (is_state state) → encode (column_of state) ≡ slices state 0 parts
unfolding is_state are_numbers is_flag encode joined part column_of slices
column_written state b t =
    let numbers : T (are_numbers state) = search conj in
    let runs : T (is_protocol (number state Runs) (number state Poster)) = search conj in
    let stages : T (is_stage (number state StageKind) (number state Round)) = search conj in
    let firm : T (ltb (number state Firm) 2) = search conj in
    let small : (i : ℕ) → i < flags → get_or state (offset Agreements + i) 0 < 2 = λ i h. ltb→lt (get_or state (offset Agreements + i) 0) 2 (all_each (is_flag state) flags (search conj) i h) in
    let behind : (i : ℕ) → offset Agreements + (length_of Agreements + i) ≡ offset Reports + i = λ i. omega arith in
    simp (one_byte state, two_bytes state)
    (rw (
      eqb→eq (number state Version) version (search conj),
      (protocol_written (number state Runs) (number state Poster) runs).0,
      (protocol_written (number state Runs) (number state Poster) runs).1,
      (stage_written (number state StageKind) (number state Round) stages).0,
      (stage_written (number state StageKind) (number state Round) stages).1,
      flag_written (number state Firm) (ltb→lt (number state Firm) 2 firm),
      word_written state (offset Proposal) 0 (omega arith) (b (offset Proposal)),
      word_written state (offset Proposal) 1 (omega arith) (b (offset Proposal)),
      flags_written state (offset Agreements) 31 (λ i h. small i (omega arith)),
      flags_written state (offset Reports) 31 (λ i h. rw (behind i) at (small (length_of Agreements + i) (omega arith))),
      words_written state (offset Kept) 32 b,
    )
    refl)

pub encode_decode : (state : List ℕ) → Below 256 state → is_state state ≡ true → encode (decode state) ≡ state
unfolding is_state decode byte_from
encode_decode state b h =
    let t : T (is_state state) = passes _ h in
    let e = eqb→eq (length state) state_length (search conj) in
    ap (λ (s : List ℕ). encode (column_of s)) (whole_is state e)
    ∙ column_written state b t
    ∙ sym (in_parts state 0 parts)
    ∙ read_back (byte_from state 0) state state_length 0 e (λ i l. ap (λ (q : ℕ). get_or state q 0) (omega arith))

-- AN ENTRY
pub entry_read : (e : Entry) → read_entry (entry_bytes e) ≡ e
unfolding read_entry entry_bytes
entry_read e = rw (flag_read e.has_record).0 refl

pub entry_long : (e : Entry) → length e.bytes ≡ 32 → length (entry_bytes e) ≡ entry_length
unfolding entry_bytes
entry_long e h = omega arith
