-- The calls make the run: where every sound column sends, agrees, reports and is graded by the calls' definitions, from what it hears, their
-- sets are a `Run`. So Theorem 3.3 speaks of what the contracts cite.
use Rattle.std.specs.Prelude.{◌≡◌, Bool, false, List, [], ◌∷◌, ℕ, ◌+◌, ◌-◌, ◌*◌, ◌≤◌, ◌<◌}
use Rattle.std.proofs.Math.Path.{ap}
use Rattle.std.proofs.Common.{◌∙◌, arith, lt-ltb}
use Rattle.std.proofs.Math.Dec.{eqb}
use Rattle.lists.specs.Entries.{all_same, get_d_list_of}
use Rattle.sizes.specs.Sizes.{blocks}
use Rattle.messages.specs.Messages.{read_report, said, from, to_all, heard, heard_of_all}
use Rattle.messages.specs.Wall.{Wall, Sound, Delivered}
use Rattle.messages.proofs.Delivery.{heard_message, heard_value}
use Rattle.codeword.specs.Codeword.{Held}
use Rattle.dispersal.specs.Dispersal.{exchange, exchanges, agrees_in, agrees_with, agreement_at, agreements, agrees, first_report, report_at, reports, reported, second_report}
use Rattle.dispersal.specs.Run.{Run, grade_of, Graded}
use Rattle.dispersal.proofs.Graded.{theorem_3_3}

-- READING A SET BACK

pub agrees_agreements : (n m own : ℕ) (bytes inbox : List ℕ) (j : ℕ) → 1 ≤ j → j ≤ n → n ≤ 31
    → agrees (agreements n m own bytes inbox) j ≡ agrees_with n m own bytes j (heard own (exchange n m own bytes own) (2 * blocks n m) inbox j)
unfolding agrees agreements agreement_at
agrees_agreements n m own bytes inbox j l u h =
    let e : j - 1 + 1 ≡ j = omega arith in
    get_d_list_of (agreement_at n m own bytes inbox) 31 (j - 1) false (omega arith) ∙ rw (lt-ltb (j - 1) n (omega arith), e)

pub reported_reports : (n : ℕ) (received : ℕ → ℕ) (j : ℕ) → 1 ≤ j → j ≤ n → n ≤ 31 → reported (reports n received) j ≡ eqb (read_report (received j)) 1
unfolding reported reports report_at
reported_reports n received j l u h =
    let e : j - 1 + 1 ≡ j = omega arith in
    get_d_list_of (report_at n received) 31 (j - 1) false (omega arith) ∙ rw (lt-ltb (j - 1) n (omega arith), e)

-- of a message only the 2B values matter
pub agrees_with_same : (n m own : ℕ) (bytes : List ℕ) (j : ℕ) (f g : ℕ → ℕ) → ((k : ℕ) → k < 2 * blocks n m → f k ≡ g k)
    → agrees_with n m own bytes j f ≡ agrees_with n m own bytes j g
unfolding agrees_with agrees_in
agrees_with_same n m own bytes j f g h =
    all_same (agrees_in n m own bytes j f) (agrees_in n m own bytes j g) (blocks n m) (λ k l. rw (h k (omega arith), h (blocks n m + k) (omega arith)))

-- THE RUN. X₁, X₂ and X₃ are the slices that the columns listen to in the three rounds
module _ (n m : ℕ) (held : ℕ → List ℕ) (X₁ X₂ X₃ : ℕ → List ℕ) where
  abbrev pub agreements_of : ℕ → List Bool
  agreements_of i = agreements n m i (held i) (X₁ i)

  abbrev pub first_of : ℕ → ℕ
  first_of i = first_report n (agrees (agreements_of i))

  abbrev pub reports_of : ℕ → List Bool
  reports_of i = reports n (from (heard_of_all n i (first_of i ∷ []) 1 (X₂ i) 0))

  abbrev pub second_of : ℕ → ℕ
  second_of i = second_report n i (agrees (agreements_of i)) (reported (reports_of i))

  abbrev pub seconds_of : ℕ → ℕ → ℕ
  seconds_of i = from (heard_of_all n i (second_of i ∷ []) 1 (X₃ i) 0)

  -- the grade with which column i leaves
  abbrev pub leaves_with : ℕ → ℕ
  leaves_with = grade_of n agreements_of reports_of seconds_of

  module _ (H : ℕ → Bool) (W : Wall n H) (low : 1 ≤ m) (high : m ≤ 32) (records : (i : ℕ) → Sound n H i → Held m (held i))
      (d₁ : Delivered n H (2 * blocks n m) (λ j. exchanges n m j (held j)) X₁)
      (d₂ : Delivered n H 1 (λ j. to_all n 1 (first_of j ∷ [])) X₂)
      (d₃ : Delivered n H 1 (λ j. to_all n 1 (second_of j ∷ [])) X₃) where
    pub calls_run : Run n m H held agreements_of reports_of seconds_of
    unfolding exchanges
    calls_run =
        record {
          wall = W;
          bytes_low = low;
          bytes_high = high;
          records = records;
          exchanged = λ i j si sj.
              agrees_agreements n m i (held i) (X₁ i) j sj.0 sj.1 W.high
              ∙ agrees_with_same n m i (held i) j (heard i (exchange n m i (held i) i) (2 * blocks n m) (X₁ i) j) (said (exchange n m j (held j) i)) (λ k l.
              heard_message n (2 * blocks n m) H (λ j i. exchange n m j (held j) i) X₁ d₁ i j k si sj l);
          first = λ i j si sj.
              reported_reports n (from (heard_of_all n i (first_of i ∷ []) 1 (X₂ i) 0)) j sj.0 sj.1 W.high
              ∙ ap (λ (v : ℕ). eqb (read_report v) 1) (heard_value n H first_of X₂ W d₂ i j si sj);
          second = heard_value n H second_of X₃ W d₃;
        }

    -- THEOREM 3.3, of the calls
    pub calls_graded : Graded n H held leaves_with
    calls_graded = theorem_3_3 calls_run
