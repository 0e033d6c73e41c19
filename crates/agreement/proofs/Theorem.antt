-- THE THIRD DEMAND, proved of the definitions that the calls' contracts cite: `third_demand`.
use Rattle.std.proofs.Math.Path.{◌≡◌, sym, ap}
use Rattle.std.specs.Prelude.{refl, Bool, ℕ, suc, ◌≤◌, leb}
use Rattle.std.proofs.Common.{subst, ◌∙◌}
use mathlib.Core.List.{List}
use Rattle.std.proofs.Math.Option.{Option, none, some}
use native.Mathlib.Omega.{arith}
use Rattle.std.proofs.Math.Dec.{T}
use Rattle.std.proofs.Math.ListN.{length, take}
use Rattle.lists.specs.Lists.{count, same}
use Rattle.lists.specs.Tests.{conj, and_both}
use Rattle.lists.specs.Entries.{same_eq, same_refl}
use Rattle.lists.specs.Count.{mono}
use Rattle.block.specs.Block.{part}
use Rattle.protocols.specs.declared.Protocol.TheVariants.{Agreement}
use Rattle.sizes.specs.Sizes.{faults}
use Rattle.protocols.specs.Protocols.{rounds_in}
use Rattle.protocols.proofs.Laws.{rounds_in_some}
use Rattle.messages.specs.Wall.{Sound, holds}
use Rattle.codeword.specs.Places.{from_places}
use Rattle.king.specs.King.{phases}
use Rattle.king.proofs.Phases.{sound_king}
use Rattle.dispersal.specs.Run.{Graded, keeps}
use Rattle.agreement.specs.declared.Column.{Column}
use Rattle.agreement.specs.Column.{fits}
use Rattle.agreement.specs.Rounds.{ends_on}
use Rattle.machine.specs.Machine.{Asks}
use Rattle.machine.specs.Lists.{in_turn, after_leading, Run, EveryRun, Answers, AtEnd}
use Rattle.agreement.specs.Machine.{machine, plain}
use Rattle.machine.specs.Claim.{leaves, Demand}
use Rattle.machine.proofs.Carried.{asked, demand_carried, itself}
use Rattle.agreement.proofs.Courses as C
use Rattle.agreement.proofs.Dissemination as E
use Rattle.agreement.proofs.Agreeing.{base, disseminates}
use Rattle.agreement.proofs.Decision.{Decision, decision, graded, lastly, held_last}
use Rattle.agreement.proofs.Endings.{shortened, ended_answers}
use Rattle.agreement.proofs.Turns.{extra_keeps}
use Rattle.agreement.proofs.Runs.{made_is, whole, none_refused_lem, courses, at_end, end_fits}

module _ {n m : ℕ} {H : ℕ → Bool} {held : ℕ → List ℕ} {out inbox : ℕ → ℕ → List ℕ} (R : Run (machine Agreement) Agreement n m H held (in_turn Agreement n out inbox) out inbox) where
  -- column i after q rounds, and the record that it held at the start
  abbrev state : ℕ → ℕ → Column
  state i q = C.state (courses R) i q

  abbrev places : ℕ → List ℕ
  places i = C.places (courses R) i

  D : Decision (courses R)
  D = decision (courses R)

  -- wherever it is asked behind its last leading call, a column answers what it decided
  answers : AtEnd (machine Agreement) n m H held (in_turn Agreement n out inbox) (λ i. Answers (machine Agreement) m (shortened m D.decided))
  answers =
      asked (machine Agreement) (plain Agreement) R (λ i. Answers (machine Agreement) m (shortened m D.decided)) λ i si.
      subst (λ (c : Column). Answers (machine Agreement) m (shortened m D.decided) c Asks) (sym (at_end R i si ∙ ended i si))
      (ended_answers Agreement m (lastly (courses R) i) D.decided (subst (λ (c : Column). T (fits c)) (ended i si) (end_fits R i si)))
    where
      -- it ends on what the wall decided
      ended : (i : ℕ) → Sound n H i → state i (rounds_in Agreement n) ≡ ends_on D.decided (lastly (courses R) i)
      ended i si =
          E.last_state (courses R) (base (phases n)) (disseminates n) places (held_last (courses R)) i
          ∙ ap (λ (o : Option (List ℕ)). ends_on o (lastly (courses R) i)) (D.same_outcome i si)

  -- the m bytes of sound column i, from its 32 places
  held_is : (i : ℕ) → Sound n H i → take m (places i) ≡ held i
  held_is i si = from_places m R.bytes_high (held i) (R.records i si).0

  many : (o : Option (List ℕ)) → D.decided ≡ o → (r : List ℕ) → shortened m o ≡ some r → suc (faults n) ≤ count (holds H held r) n
  unfolding shortened
  many none e r q =
      let z : ◌≡◌ {A = ℕ} 0 1 = cc in absurd (omega arith)
  many (some s) e r q =
      let is : take m s ≡ r = cc in
      omega (
        arith,
        D.many_held s e,
        mono (holds H (places) s) (holds H held r) n (λ i l u h.
            let si : Sound n H i = (l, u, search conj) in
            let held_it : T (same (places i) s) = search conj in
            let eq : held i ≡ r = sym (held_is i si) ∙ ap (take m) (same_eq (places i) s held_it) ∙ is in
            and_both (H i) (same (held i) r) si.2 (rw eq (same_refl r))),
      )

  alike : (r : List ℕ) → ((i : ℕ) → Sound n H i → held i ≡ r) → shortened m D.decided ≡ some r
  unfolding shortened
  alike r all =
      let (k, l, sk) = sound_king R.wall in
      let decided = D.all_alike (part r 0 32) (λ i si. ap (λ (r : List ℕ). part r 0 32) (all i si)) in
      rw decided (ap {B = Option (List ℕ)} some (from_places m R.bytes_high r (ap length (sym (all (suc k) sk)) ∙ (R.records (suc k) sk).0)))

  -- the grade that a column leaves with
  leaves_is : (i : ℕ) → Sound n H i → leaves (machine Agreement) n m held (in_turn Agreement n out inbox) i ≡ (state i 3).grade
  leaves_is i si =
      ap (λ (c : Column). (after_leading (machine Agreement) 6 c (in_turn Agreement n out inbox i)).grade) (made_is R i si) ∙ ap (λ (c : Column). c.grade) ((whole R i si).led 6 3 refl (omega (arith, rounds_in_some Agreement n)))

  grades : Graded n H held (leaves (machine Agreement) n m held (in_turn Agreement n out inbox))
  grades =
      record {
        validity = λ r all i si. leaves_is i si ∙ G.validity (part r 0 32) (λ j sj. ap (λ (r : List ℕ). part r 0 32) (all j sj)) i si;
        enough = λ c sc two.
            omega (
              arith,
              G.enough c sc (sym (leaves_is c sc) ∙ two),
              mono (keeps H (places) (λ i. (state i 3).grade) (places c)) (keeps H held (leaves (machine Agreement) n m held (in_turn Agreement n out inbox)) (held c)) n (λ i l u h.
                  let si : Sound n H i = (l, u, search conj) in
                  let held_it : T (same (places i) (places c)) = search conj in
                  let one : T (leb 1 (state i 3).grade) = search conj in
                  and_both (holds H held (held c) i) (leb 1 (leaves (machine Agreement) n m held (in_turn Agreement n out inbox) i))
                  (and_both (H i) (same (held i) (held c)) si.2 (rw (one_record i c si sc (same_eq _ _ held_it)) (same_refl (held c)))) (rw (leaves_is i si) one)),
            );
        others = λ c i sc si two ne. leaves_is i si ∙ G.others c i sc si (sym (leaves_is c sc) ∙ two) (λ e. ne (one_record i c si sc e));
      }
    where
      G : Graded n H (places) (λ i. (state i 3).grade)
      G = graded (courses R)

      one_record : (i c : ℕ) → Sound n H i → Sound n H c → places i ≡ places c → held i ≡ held c
      one_record i c si sc e = sym (held_is i si) ∙ ap (take m) e ∙ held_is c sc

  -- of calls in turn
  calls_in_turn : Demand (machine Agreement) n m H held (in_turn Agreement n out inbox)
  calls_in_turn =
      record {
        accepted = none_refused_lem R;
        value = λ i. shortened m D.decided;
        outputs = answers;
        agreed = record { decided = shortened m D.decided; same_outcome = λ i si. refl; many_held = many D.decided refl; all_alike = alike; grades = grades };
      }

-- THE THEOREM
pub third_demand : EveryRun (machine Agreement) Agreement (Demand (machine Agreement))
third_demand = demand_carried (itself Agreement (machine Agreement) (plain Agreement) (λ c. extra_keeps c Agreement)) (λ n m H held out inbox R. calls_in_turn R)
