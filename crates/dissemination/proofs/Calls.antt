-- The calls make the run: where every sound column sends, keeps and passes on points by the calls' definitions, from what it hears, they are a
-- `Run`. So Theorem 3.9 speaks of what the contracts cite.
use Rattle.std.specs.Prelude.{◌≡◌, Bool, true, List, ℕ, ◌≤◌, ◌<◌}
use Rattle.std.proofs.Math.Path.{ap}
use Rattle.std.proofs.Common.{◌∙◌, arith, lt-ltb}
use Rattle.lists.specs.Entries.{get_d_list_of}
use Rattle.field.specs.Field.{blank}
use Rattle.sizes.specs.Sizes.{blocks}
use Rattle.sizes.proofs.Laws.{blocks_le}
use Rattle.messages.specs.Messages.{read_point, said, to_all}
use Rattle.messages.specs.Wall.{Wall, Delivered}
use Rattle.messages.proofs.Delivery.{heard_message}
use Rattle.dissemination.specs.Dissemination.{spoken, points_in, points, points_to_all, kept_point, kept_at, kept_points}
use Rattle.dissemination.specs.Run.{Run, Consistent}
use Rattle.dissemination.proofs.Spread.{theorem_3_9}

-- READING A KEPT POINT BACK
pub said_kept : (n m own : ℕ) (speaks : Bool) (bytes inbox : List ℕ) (k : ℕ) → k < blocks n m → blocks n m ≤ 32
    → said (kept_points n m own speaks bytes inbox) k ≡ kept_point n (points_in own (points n m speaks bytes own) (blocks n m) inbox k)
unfolding said kept_points kept_at
said_kept n m own speaks bytes inbox k l h =
    get_d_list_of (kept_at n m own speaks bytes inbox) 32 k blank (omega arith) ∙ rw (lt-ltb k (blocks n m) l)

-- THE RUN. X and Y are the slices that the columns listen to in the two rounds; column i has its record for an input where `has i`
module _ (n m : ℕ) (has : ℕ → Bool) (held : ℕ → List ℕ) (X Y : ℕ → List ℕ) where
  abbrev pub received_first : ℕ → ℕ → ℕ → ℕ
  received_first i = points_in i (points n m (has i) (held i) i) (blocks n m) (X i)

  abbrev pub kept_of : ℕ → List ℕ
  kept_of i = kept_points n m i (has i) (held i) (X i)

  abbrev pub received_last : ℕ → ℕ → ℕ → ℕ
  received_last i = points_in i (spoken true (kept_of i)) (blocks n m) (Y i)

  module _ (H : ℕ → Bool) (W : Wall n H) (low : 1 ≤ m) (high : m ≤ 32)
      (d₁ : Delivered n H (blocks n m) (λ j. points_to_all n m (has j) (held j)) X)
      (d₂ : Delivered n H (blocks n m) (λ j. to_all n (blocks n m) (spoken true (kept_of j))) Y) where
    pub calls_run : Run n m H has held received_first received_last
    unfolding points_to_all to_all points_in spoken
    calls_run =
        record {
          wall = W;
          bytes_low = low;
          bytes_high = high;
          spread = λ i j k si sj l. ap read_point (heard_message n (blocks n m) H (λ j i. points n m (has j) (held j) i) X d₁ i j k si sj l);
          passed = λ i j k si sj l.
              ap read_point (heard_message n (blocks n m) H (λ j i. kept_of j) Y d₂ i j k si sj l
              ∙ said_kept n m j (has j) (held j) (X j) k l (omega (arith, high, blocks_le n m)));
        }

    -- THEOREM 3.9, of the calls
    pub calls_consistent : Consistent n m H has held received_last
    calls_consistent = theorem_3_9 calls_run
