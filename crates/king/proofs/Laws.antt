-- What each definition gives: a bit that was received often enough, and nothing but a bit.
use Rattle.std.proofs.Math.Path.{◌≡◌, refl}
use Rattle.std.proofs.Common.{sym, ap, ◌∙◌, inl, inr, arith, eqb→eq}
use Rattle.std.specs.Prelude.{Bool, cond, ◌⊎◌, T, eqb}
use Rattle.std.proofs.Math.Bool.{true, false}
use Prim.Native.Nat.{ℕ, zero, suc, ◌-◌, ◌≤◌, ◌<◌}
use borrow.Author.Tests.{leb-true, le-leb, lt-leb, eq-eqb, ne_eqb}
use Rattle.std.proofs.Math.Dec.{leb}
use Rattle.lists.specs.Tests.{passes, either_lt}
use Rattle.lists.specs.Count.{none, count_same}
use Rattle.field.specs.Field.{blank}
use Rattle.sizes.specs.Sizes.{faults}
use Rattle.messages.specs.Messages.{read_bit, times}
use Rattle.messages.proofs.Laws.{bit_is, bit_or_blank, same_bit}
use Rattle.king.specs.King.{bits, chosen, proposal, settled, word, crowned}

-- READING AND COUNTING BITS

pub bits_same : (R S : ℕ → ℕ) (j : ℕ) → R j ≡ S j → bits R j ≡ bits S j
unfolding bits
bits_same R S j e = ap read_bit e

pub bits_is : (R : ℕ → ℕ) (j b : ℕ) → b ≤ 1 → R j ≡ b → bits R j ≡ b
unfolding bits
bits_is R j b h e = rw e (bit_is b (omega arith))

pub bits_only : (R : ℕ → ℕ) (j b : ℕ) → b ≤ 1 → bits R j ≡ b → R j ≡ b
unfolding bits
bits_only R j b h e = eqb→eq (R j) b (passes _ (sym (same_bit (R j) b (omega arith)) ∙ eq-eqb (read_bit (R j)) b e))

-- a bit counts as it came
pub times_bits : (R : ℕ → ℕ) (b n : ℕ) → b < 2 → times (bits R) b n ≡ times R b n
unfolding times bits
times_bits R b n h = count_same (λ j. eqb (read_bit (R j)) b) (λ j. eqb (R j) b) n (λ j l u. same_bit (R j) b h)

-- what is no bit is never received
pub times_none : (R : ℕ → ℕ) (b n : ℕ) → 1 < b → b < blank → times (bits R) b n ≡ 0
unfolding times bits
times_none R b n h l = none (λ j. eqb (read_bit (R j)) b) n (λ j _ _ t. go (R j) (eqb→eq (read_bit (R j)) b t) (bit_or_blank (R j)))
  where
    go : (v : ℕ) → read_bit v ≡ b → (read_bit v < 2) ⊎ (read_bit v ≡ blank) → ⊥
    go v e (inl k) = omega arith
    go v e (inr k) = omega arith

-- EACH STEP

module _ (n need : ℕ) (R : ℕ → ℕ) (other : ℕ) where
  -- a bit that was received often enough, the other not
  pub chosen_is : (b : ℕ) → b ≤ 1 → need ≤ times (bits R) b n → times (bits R) (1 - b) n < need → chosen n need R other ≡ b
  unfolding chosen
  chosen_is zero h l m = rw (lt-leb need (times (bits R) 1 n) m, le-leb need (times (bits R) 0 n) l)
  chosen_is (suc zero) h l m = rw (le-leb need (times (bits R) 1 n) l)
  chosen_is (suc (suc b)) h l m = absurd (omega arith)

  -- a bit that was chosen for being received
  pub chosen_only : (b : ℕ) → b ≤ 1 → 1 < other → chosen n need R other ≡ b → need ≤ times (bits R) b n
  unfolding chosen
  chosen_only b h l = go b h (leb need (times (bits R) 1 n)) (leb need (times (bits R) 0 n)) refl refl
    where
      go : (b : ℕ) → b ≤ 1 → (p q : Bool) → leb need (times (bits R) 1 n) ≡ p → leb need (times (bits R) 0 n) ≡ q
          → ◌≡◌ {A = ℕ} (cond p 1 (cond q 0 other)) b → need ≤ times (bits R) b n
      go zero h true q ep eq e = absurd (omega arith)
      go zero h false true ep eq e = leb-true need (times (bits R) 0 n) eq
      go zero h false false ep eq e = absurd (omega arith)
      go (suc zero) h true q ep eq e = leb-true need (times (bits R) 1 n) ep
      go (suc zero) h false true ep eq e = absurd (omega arith)
      go (suc zero) h false false ep eq e = absurd (omega arith)
      go (suc (suc b)) h p q ep eq e = absurd (omega arith)

  -- nothing but a bit, or what else there is
  pub chosen_lt : (k : ℕ) → 1 < k → other < k → chosen n need R other < k
  unfolding chosen
  chosen_lt k h l = either_lt (leb need (times (bits R) 1 n)) 1 (cond (leb need (times (bits R) 0 n)) 0 other) k h
      (either_lt (leb need (times (bits R) 0 n)) 0 other k (omega arith) l)

-- what is proposed is a bit or blank: it reads as itself
pub proposal_reads : (n : ℕ) (votes : ℕ → ℕ) → read_bit (proposal n votes) ≡ proposal n votes
unfolding proposal chosen read_bit
proposal_reads n votes = go (leb (n - faults n) (times (bits votes) 1 n)) (leb (n - faults n) (times (bits votes) 0 n))
  where
    go : (p q : Bool) → read_bit (cond p 1 (cond q 0 blank)) ≡ cond p 1 (cond q 0 blank)
    go true q = refl
    go false true = refl
    go false false = refl

-- a vote stays a bit
pub settled_bit : (n : ℕ) (proposals : ℕ → ℕ) (vote : ℕ) → vote < 2 → settled n proposals vote < 2
unfolding settled
settled_bit n proposals vote h = chosen_lt n _ proposals vote 2 (omega arith) h

-- a king's word is its vote
pub word_king : (king own vote : ℕ) → own ≡ king → word king own vote ≡ vote
unfolding word
word_king king own vote e = simp (eq-eqb own king e)

-- firm or not, the vote and the king's word being one
pub crowned_is : (F : Bool) (w k b : ℕ) → b ≤ 1 → (T F → w ≡ b) → k ≡ b → crowned F w k ≡ b
unfolding crowned
crowned_is true w k b h e f = e tt
crowned_is false w k b h e f = rw (f, bit_is b (omega arith), ne_eqb b blank (omega arith))

pub crowned_firm : (F : Bool) (w k : ℕ) → T F → crowned F w k ≡ w
unfolding crowned
crowned_firm true w k t = refl
crowned_firm false w k t = absurd t

pub crowned_bit : (F : Bool) (w k : ℕ) → w ≤ 1 → crowned F w k ≤ 1
unfolding crowned
crowned_bit true w k h = h
crowned_bit false w k h = go (bit_or_blank k)
  where
    go : (read_bit k < 2) ⊎ (read_bit k ≡ blank) → cond (eqb (read_bit k) blank) 0 (read_bit k) ≤ 1
    go (inl l) = rw (ne_eqb (read_bit k) blank (omega arith)) (omega arith)
    go (inr e) = rw (eq-eqb (read_bit k) blank e) (omega arith)
