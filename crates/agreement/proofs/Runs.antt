-- The lists of calls of a run come to the courses of its columns.
use Rattle.std.specs.Prelude.{◌≡◌, refl, Bool, List, [], ℕ, suc, ◌-◌, length, get_or}
use Rattle.std.proofs.Common.{sym, ap, ◌∙◌, le_refl, arith}
use Rattle.std.proofs.Math.Path.{subst}
use Rattle.std.proofs.Math.Dec.{T}
use Rattle.protocols.specs.declared.Protocol.{Protocol}
use Rattle.sizes.specs.Sizes.{refusal as refusal_of_sizes}
use Rattle.protocols.specs.Protocols.{rounds_in, values_in, beside}
use Rattle.messages.proofs.Laws.{not_refused}
use Rattle.messages.specs.Wall.{Sound}
use Rattle.messages.proofs.Delivery.{delivered_as}
use Rattle.codeword.specs.Places.{in_places_lem}
use Rattle.agreement.specs.declared.Column.{Column}
use Rattle.agreement.specs.Column.{fits}
use Rattle.agreement.specs.Rounds.{outgoing}
use Rattle.agreement.specs.Calls.{answered, or_else, fresh_refusal, fresh}
use Rattle.machine.specs.Lists.{in_turn, final, none_refused, wrote, made, Run, Accepted}
use Rattle.machine.proofs.Carried.{makes}
use Rattle.agreement.specs.Machine.{machine}
use Rattle.agreement.proofs.Course.{course, course_fits}
use Rattle.agreement.proofs.Courses.{Courses}
use Rattle.agreement.proofs.Turns.{answer_is}
use Rattle.agreement.proofs.Walk.{Ready, Walked, walk}

-- a call to make a column that nothing refuses
pub fresh_accepted : (p : Protocol) (n m own : ℕ) (bytes : List ℕ) → refusal_of_sizes n m own ≡ 0 → refusal_of_sizes n m (beside p) ≡ 0 → length bytes ≡ m → fresh_refusal p n m own (length bytes) ≡ 0
unfolding fresh_refusal or_else
fresh_accepted p n m own bytes e b h = not_refused _ 1 m (length bytes) (rw (e, b) refl) (omega arith)

-- and makes it
pub fresh_is_made : (p : Protocol) (n m : ℕ) (held : ℕ → List ℕ) (inbox : ℕ → List ℕ) (i : ℕ) → fresh_refusal p n m i (length (held i)) ≡ 0 → made (machine p) n m held i ≡ course p n m i (held i) inbox 0
unfolding made fresh answered course
fresh_is_made p n m held inbox i e = rw e refl

module _ {p : Protocol} {n m : ℕ} {H : ℕ → Bool} {held : ℕ → List ℕ} {out inbox : ℕ → ℕ → List ℕ} (R : Run (machine p) p n m H held (in_turn p n out inbox) out inbox) where
  -- column i after q rounds
  abbrev state : ℕ → ℕ → Column
  state i q = course p n m i (held i) (inbox i) q

  ready : (i : ℕ) → Sound n H i → Ready p n m i (held i) (inbox i) (out i)
  ready i si =
      let a = makes (machine p) R i si in
      record {
        accepted = a.own_fits;
        poster = a.poster_fits;
        full = a.full;
        out_length = λ r. R.out_length i r si;
        inbox_length = λ r. R.inbox_length i r si;
      }

  -- a sound column is made
  not_refused_fresh : (i : ℕ) → Sound n H i → fresh_refusal p n m i (length (held i)) ≡ 0
  not_refused_fresh i si = let a = ready i si in fresh_accepted p n m i (held i) a.accepted a.poster a.full

  pub made_is : (i : ℕ) → Sound n H i → made (machine p) n m held i ≡ state i 0
  made_is i si = fresh_is_made p n m held (inbox i) i (not_refused_fresh i si)

  pub whole : (i : ℕ) → Sound n H i → Walked p n m i (held i) (inbox i) 0 (in_turn p n out inbox i)
  whole i si = walk p n m i (held i) (inbox i) (out i) (ready i si)

  -- none of the calls that lead through the rounds is refused
  pub none_refused_lem : Accepted (machine p) n m H held (in_turn p n out inbox)
  unfolding fresh answered
  none_refused_lem i si = (
    answer_is (fresh_refusal p n m i (length (held i))) ∙ not_refused_fresh i si,
    subst (λ (c : Column). T (none_refused (machine p) c (in_turn p n out inbox i))) (sym (made_is i si)) (whole i si).none_refused_lem,
  )

  pub courses : Courses p n m H held inbox
  courses =
      record {
        wall = R.wall;
        bytes_low = R.bytes_low;
        bytes_high = R.bytes_high;
        records = λ i si. in_places_lem m (held i) (R.records i si).0 (R.records i si).1;
        delivered = λ q l.
            delivered_as n H (values_in p n m (suc q)) (values_in p n m (suc q)) (λ j. get_or (wrote (machine p) (made (machine p) n m held j) (in_turn p n out inbox j)) (suc q - 1) []) (λ j. outgoing (state j q) (suc q)) (λ i. inbox i (suc q)) refl (λ j sj.
            ap (λ (c : Column). get_or (wrote (machine p) c (in_turn p n out inbox j)) (suc q - 1) []) (made_is j sj) ∙ (whole j sj).wrote_at (suc q - 1) q (omega arith) l) (R.mail (suc q) (omega arith) l);
      }

  -- behind its last call a column is in the state in which its course ends
  pub at_end : (i : ℕ) → Sound n H i → final (machine p) (made (machine p) n m held i) (in_turn p n out inbox i) ≡ state i (rounds_in p n)
  at_end i si = ap (λ (c : Column). final (machine p) c (in_turn p n out inbox i)) (made_is i si) ∙ (whole i si).ended

  -- which is in its ranges
  pub end_fits : (i : ℕ) → Sound n H i → T (fits (state i (rounds_in p n)))
  end_fits i si =
      let a = ready i si in course_fits p n m i (held i) (inbox i) a.accepted a.poster a.full (rounds_in p n) (le_refl (rounds_in p n))
