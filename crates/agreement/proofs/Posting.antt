-- DEFINITION 3.10, proved of the definitions that the calls' contracts cite: `posts`.
use Rattle.std.specs.Prelude.{◌≡◌, Bool, List, ℕ, T}
use Rattle.std.proofs.Common.{sym, ap, subst, ◌∙◌}
use Rattle.protocols.specs.declared.Protocol.TheVariants.{Posting}
use Rattle.protocols.specs.Protocols.{rounds_in}
use Rattle.messages.specs.Wall.{Sound}
use Rattle.agreement.specs.declared.Column.{Column}
use Rattle.agreement.specs.Column.{fits}
use Rattle.agreement.specs.Rounds.{ends_on}
use Rattle.machine.specs.Machine.{Asks}
use Rattle.machine.specs.Lists.{in_turn, Run, EveryRun, AtEnd}
use Rattle.agreement.specs.Machine.{machine, plain}
use Rattle.machine.specs.Gradecast.{Outputs, Posted}
use Rattle.machine.proofs.Carried.{asked, posted_carried, itself}
use Rattle.agreement.proofs.Courses.{Courses, is}
use Rattle.agreement.proofs.Dissemination as E
use Rattle.agreement.proofs.Endings.{ended_answers}
use Rattle.agreement.proofs.Turns.{extra_keeps}
use Rattle.agreement.proofs.Binding.{disseminates, out_grade, ended_grade, state, took, took_last, g, grade_stays, decides, grades, values, gradecast}
use Rattle.agreement.proofs.Runs.{none_refused_lem, courses, at_end, end_fits}

module _ {s n m : ℕ} {H : ℕ → Bool} {held : ℕ → List ℕ} {out inbox : ℕ → ℕ → List ℕ} (R : Run (machine (Posting s)) (Posting s) n m H held (in_turn (Posting s) n out inbox) out inbox) where
  -- wherever it is asked behind its last leading call, a column answers with its grade and what it decoded
  answers : AtEnd (machine (Posting s)) n m H held (in_turn (Posting s) n out inbox) (λ i. Outputs (machine (Posting s)) m (grades (courses R) i) (values (courses R) i))
  answers =
      asked (machine (Posting s)) (plain (Posting s)) R (λ i. Outputs (machine (Posting s)) m (grades C i) (values C i)) λ i si.
      subst (λ (c : Column). Outputs (machine (Posting s)) m (grades C i) (values C i) c Asks) (sym (at_end R i si ∙ ended i))
      (ended_answers (Posting s) m (last i) (decides C i) (fit i si), ended_grade s (last i) (decides C i) (is C i 5).protocol_is (fit i si) ∙ ap (λ (g : ℕ). out_grade g (decides C i)) (same_grade i))
    where
      C : Courses (Posting s) n m H held inbox
      C = courses R

      last : ℕ → Column
      last = E.lastly C 4 (disseminates s n) (took C) (took_last C)

      ended : (i : ℕ) → state C i (rounds_in (Posting s) n) ≡ ends_on (decides C i) (last i)
      ended = E.last_state C 4 (disseminates s n) (took C) (took_last C)

      fit : (i : ℕ) → Sound n H i → T (fits (ends_on (decides C i) (last i)))
      fit i si = subst (λ (c : Column). T (fits c)) (ended i) (end_fits R i si)

      same_grade : (i : ℕ) → (last i).grade ≡ g C i
      same_grade i = grade_stays C i

  -- of calls in turn
  calls_in_turn : Posted (machine (Posting s)) s n m H held (in_turn (Posting s) n out inbox)
  calls_in_turn =
      record {
        accepted = none_refused_lem R;
        grade = grades (courses R);
        value = values (courses R);
        outputs = answers;
        gradecast = gradecast (courses R) (λ ss. (R.records s ss).0);
      }

-- THE THEOREM
pub posts : (s : ℕ) → EveryRun (machine (Posting s)) (Posting s) (Posted (machine (Posting s)) s)
posts s = posted_carried (itself (Posting s) (machine (Posting s)) (plain (Posting s)) (λ c. extra_keeps c (Posting s))) s (λ n m H held out inbox R. calls_in_turn R)
