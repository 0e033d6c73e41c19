-- The record that a receiver takes in the first round of a posting.
use Rattle.std.specs.Prelude.{◌≡◌, refl, Bool, true, false, cond, ◌&&◌, List, ℕ, ◌≤◌, ◌<◌, T, ltb, get_or, replicate}
use Rattle.std.proofs.Common.{sym, ◌∙◌, arith, lt-ltb, le-ltb, ltb-true, lt→ltb, ext_get_or}
use Rattle.std.proofs.Math.Decide.{dec_lt}
use Rattle.std.proofs.lemmas.List.{length-replicate, get_or-replicate}
use Rattle.std.proofs.Math.ListN.{get_or-eq_default}
use Rattle.lists.specs.Lists.{all, list_of}
use Rattle.lists.specs.Tests.{is_true}
use Rattle.lists.specs.Entries.{each_all, length_list_of, get_d_list_of, get_d_within, below_list_of}
use Rattle.field.specs.Field.{blank}
use Rattle.messages.specs.Messages.{read_byte}
use Rattle.codeword.specs.Codeword.{Held}
use Rattle.agreement.specs.Post.{sent_byte, posted_byte, taken_record}

-- a byte is one where it was read as one
byte_lt : (m : ℕ) (sent : ℕ → ℕ) (p : ℕ) → posted_byte m sent p < 256
unfolding posted_byte sent_byte read_byte
byte_lt m sent p = go (ltb p m) (ltb (sent p) 256) refl
  where
    go : (a b : Bool) → ltb (sent p) 256 ≡ b → cond (a && ltb (cond b (sent p) blank) 256) (sent p) 0 < 256
    go true true e = rw e (ltb-true (sent p) 256 e)
    go true false e = omega arith
    go false b e = omega arith

-- past m there are zeros
byte_past : (m : ℕ) (sent : ℕ → ℕ) (p : ℕ) → m ≤ p → posted_byte m sent p ≡ 0
unfolding posted_byte
byte_past m sent p h = rw (le-ltb p m h) refl

-- a value below 256 is a byte, and stands at its place
is_byte : (sent : ℕ → ℕ) (k : ℕ) → sent k < 256 → T (sent_byte sent k)
unfolding sent_byte read_byte
is_byte sent k h = rw (lt-ltb (sent k) 256 h) (lt→ltb (sent k) 256 h)

byte_at_lem : (m : ℕ) (sent : ℕ → ℕ) (p : ℕ) → p < m → T (sent_byte sent p) → posted_byte m sent p ≡ sent p
unfolding posted_byte
byte_at_lem m sent p l b = rw (lt-ltb p m l, is_true (sent_byte sent p) b) refl

-- what is taken is a record of m bytes
pub taken_held : (m : ℕ) (sent : ℕ → ℕ) → Held m (taken_record m sent)
unfolding taken_record
taken_held m sent = go (all (sent_byte sent) m)
  where
    past : (p : ℕ) → m ≤ p → Dec (p < 32) → get_or (list_of (posted_byte m sent) 32) p 0 ≡ 0
    past p h (yes l) = get_d_list_of (posted_byte m sent) 32 p 0 l ∙ byte_past m sent p h
    past p h (no l) = get_or-eq_default (list_of (posted_byte m sent) 32) 0 {n = p} (omega (arith, length_list_of (posted_byte m sent) 32))

    zeros : (p : ℕ) → Dec (p < 32) → ◌≡◌ {A = ℕ} (get_or (replicate 32 0) p 0) 0
    zeros p (yes l) = get_or-replicate 32 p 0 0 l
    zeros p (no l) = get_or-eq_default (replicate 32 0) 0 {n = p} (omega (arith, length-replicate {A = ℕ} 32 0))

    go : (b : Bool) → Held m (cond b (list_of (posted_byte m sent) 32) (replicate 32 0))
    go true =
        record {
          size = length_list_of (posted_byte m sent) 32;
          small = below_list_of 256 (posted_byte m sent) 32 (omega arith) (byte_lt m sent);
          past = λ p h. past p h (dec_lt p 32);
        }
    go false =
        record { size = length-replicate {A = ℕ} 32 0; small = λ p. omega (arith, zeros p (dec_lt p 32)); past = λ p h. zeros p (dec_lt p 32) }

-- and where a record was sent, it is that record
pub taken_sent : (m : ℕ) (sent : ℕ → ℕ) (bytes : List ℕ) → m ≤ 32 → Held m bytes → ((k : ℕ) → k < m → sent k ≡ get_or bytes k blank) → taken_record m sent ≡ bytes
unfolding taken_record
taken_sent m sent bytes high h e = rw (is_true (all (sent_byte sent) m) (each_all (sent_byte sent) m legal)) (ext_get_or 0 (list_of (posted_byte m sent) 32) bytes (length_list_of (posted_byte m sent) 32 ∙ sym h.size) (λ p l.
    let inside : p < 32 = omega (arith, length_list_of (posted_byte m sent) 32) in
    get_d_list_of (posted_byte m sent) 32 p 0 inside ∙ go p inside (dec_lt p m)))
  where
    value : (k : ℕ) → k < m → sent k ≡ get_or bytes k 0
    value k l = e k l ∙ get_d_within bytes k blank 0 (omega (arith, h.size))

    legal : (k : ℕ) → k < m → T (sent_byte sent k)
    legal k l = is_byte sent k (omega (arith, value k l, h.small k))

    go : (p : ℕ) → p < 32 → Dec (p < m) → posted_byte m sent p ≡ get_or bytes p 0
    go p l (yes i) = byte_at_lem m sent p i (legal p i) ∙ value p i
    go p l (no i) = byte_past m sent p (omega arith) ∙ sym (h.past p (omega arith))
