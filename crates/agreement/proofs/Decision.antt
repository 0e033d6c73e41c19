-- THEOREM 3.15 with the clause on t + 1 holders, of the sound columns' courses: all end on none, or all on one record that at least t + 1 of
-- them held; if all held one record, on it.
use Rattle.std.specs.Prelude.{◌≡◌, Bool, true, false, ◌&&◌, List, eqb, leb}
use Rattle.std.proofs.Math.Path.{refl}
use Rattle.std.proofs.Common.{ap, subst, ◌∙◌, arith, eq-eqb, eqb-true, eqb→eq}
use Rattle.std.proofs.Math.Option.{Option, none, some}
use Prim.Native.Nat.{ℕ, zero, suc, ◌≤◌, ◌<◌}
use Rattle.std.proofs.Math.Decide.{dec_le}
use Rattle.std.proofs.lemmas.Bool.{eqb-false}
use Rattle.std.proofs.Math.Dec.{T}
use Rattle.lists.specs.Lists.{count}
use Rattle.lists.specs.Tests.{eq→eqb, conj, and_left, and_both}
use Rattle.lists.specs.Count.{mono, find, Found, count_pos}
use Rattle.protocols.specs.declared.Protocol.TheVariants.{Agreement}
use Rattle.sizes.specs.Sizes.{faults}
use Rattle.messages.specs.Wall.{Sound, holds}
use Rattle.king.specs.King.{phases}
use Rattle.king.proofs.Phases.{sound_king, agreement, validity}
use Rattle.dispersal.specs.Run.{Graded, keeps}
use Rattle.protocols.specs.Protocols.{beside, posts}
use Rattle.agreement.specs.declared.Column.{Column}
use Rattle.agreement.specs.Column.{brought, fresh_column}
use Rattle.agreement.specs.Rounds.{votes_one, first_vote}
use Rattle.agreement.proofs.ByKind.{rounds_of_lem}
use Rattle.agreement.proofs.Course.{course}
use Rattle.agreement.proofs.Courses.{Courses, state, places}
use Rattle.agreement.proofs.Dispersal as D
use Rattle.agreement.proofs.Dissemination as E
use Rattle.agreement.proofs.Agreeing.{base, disperses, disseminates, record_lasts, grade_lasts, own_vote}
use Rattle.agreement.proofs.Phases.{votes, first_vote_lem, phase}

module _ {n m : ℕ} {H : ℕ → Bool} {held : ℕ → List ℕ} {inbox : ℕ → ℕ → List ℕ} (C : Courses Agreement n m H held inbox) where
  -- the records that the columns hold before dispersal and before dissemination are those of the start
  held_first : (i : ℕ) → (state C i 0).bytes ≡ places C i
  unfolding course fresh_column brought posts beside
  held_first i = refl

  pub held_last : (i : ℕ) → (state C i (base (phases n))).bytes ≡ places C i
  held_last i = record_lasts n m i (held i) (inbox i) (base (phases n)) (omega (arith, rounds_of_lem n))

  -- THEOREM 3.3, of the columns' states
  pub graded : Graded n H (places C) (λ i. (state C i 3).grade)
  graded = D.course_graded C 0 (disperses n) (places C) held_first C.records

  grade_small : (i : ℕ) → (state C i 3).grade < 3
  grade_small = D.grade_small C 0 (disperses n) (places C) held_first

  -- column i, to listen in the last round, and what it ends on
  abbrev pub lastly : ℕ → Column
  lastly = E.lastly C (base (phases n)) (disseminates n) (places C) held_last

  abbrev pub decides : ℕ → Option (List ℕ)
  decides = E.decides C (base (phases n)) (disseminates n) (places C) held_last

pub record Decision {n m : ℕ} {H : ℕ → Bool} {held : ℕ → List ℕ} {inbox : ℕ → ℕ → List ℕ} (C : Courses Agreement n m H held inbox) : Type 0 where
  -- the wall's outcome, a record in its 32 places
  pub decided : Option (List ℕ)
  pub same_outcome : (i : ℕ) → Sound n H i → decides C i ≡ decided
  pub many_held : (r : List ℕ) → decided ≡ some r → suc (faults n) ≤ count (holds H (places C) r) n
  pub all_alike : (r : List ℕ) → ((i : ℕ) → Sound n H i → places C i ≡ r) → decided ≡ some r

-- "The vote starts as 1 exactly at grade 2"
vote_zero : (g : ℕ) → g < 3 → (g ≡ 2 → ⊥) → first_vote g ≡ 0
unfolding first_vote
vote_zero zero l ne = refl
vote_zero (suc zero) l ne = refl
vote_zero (suc (suc zero)) l ne = absurd (ne refl)
vote_zero (suc (suc (suc g))) l ne = absurd (omega arith)

vote_one : first_vote 2 ≡ 1
unfolding first_vote
vote_one = refl

module _ {n m : ℕ} {H : ℕ → Bool} {held : ℕ → List ℕ} {inbox : ℕ → ℕ → List ℕ} (C : Courses Agreement n m H held inbox) where
  -- the grade with which column i leaves
  abbrev g : ℕ → ℕ
  g i = (state C i 3).grade

  -- the sound columns that leave with grade 2
  abbrev top : ℕ → Bool
  top i = H i && eqb (g i) 2

  -- all votes start as 0 where nobody leaves with grade 2
  start_zero : count top n ≡ 0 → (i : ℕ) → Sound n H i → votes C 0 i ≡ 0
  start_zero z i si =
      first_vote_lem C i ∙ vote_zero (g i) (grade_small C i) (λ e. omega (arith, count_pos top n i si.0 si.1 (and_both (H i) (eqb (g i) 2) si.2 (eq→eqb (g i) 2 e))))

  start_one : (i : ℕ) → g i ≡ 2 → votes C 0 i ≡ 1
  start_one i e = first_vote_lem C i ∙ ap first_vote e ∙ vote_one

  pub start_bits : (i : ℕ) → Sound n H i → votes C 0 i ≤ 1
  start_bits i si = go (eqb (g i) 2) refl
    where
      go : (b : Bool) → eqb (g i) 2 ≡ b → votes C 0 i ≤ 1
      go true e = omega (arith, start_one i (eqb-true (g i) 2 e))
      go false e = omega (arith, first_vote_lem C i, vote_zero (g i) (grade_small C i) (eqb-false (g i) 2 e))

  -- with its vote after the phases a column goes into dissemination
  last_vote : (i : ℕ) → votes_one (state C i (base (phases n))) ≡ eqb (votes C (phases n) i) 1
  last_vote i = own_vote C i (base (phases n))

  -- all votes after the phases are 1, and column c left with grade 2: all end on its record
  module _ (ones : (i : ℕ) → Sound n H i → votes C (phases n) i ≡ 1) (c : ℕ) (sc : Sound n H c) (two : g c ≡ 2) where
    -- at least t + 1 sound columns held it
    holders : suc (faults n) ≤ count (holds H (places C) (places C c)) n
    holders =
        omega (
          arith,
          (graded C).enough c sc two,
          mono (keeps H (places C) g (places C c)) (holds H (places C) (places C c)) n (λ i l u h. and_left (holds H (places C) (places C c) i) (leb 1 (g i)) h),
        )

    -- and all end on it
    ended : (i : ℕ) → Sound n H i → decides C i ≡ some (places C c)
    ended =
        E.grade_two_decides C (base (phases n)) (disseminates n) (places C) (held_last C) (λ i si. last_vote i ∙ eq-eqb _ 1 (ones i si)) g (λ i. grade_lasts n m i (held i) (inbox i) (base (phases n)) (omega arith)) (graded C) c sc two
        (C.records c sc)

    on_record : Decision C
    on_record =
        record {
          decided = some (places C c);
          same_outcome = ended;
          many_held = λ r e.
              let is : places C c ≡ r = cc in subst (λ (r : List ℕ). suc (faults n) ≤ count (holds H (places C) r) n) is holders;
          all_alike = λ r all. ap {B = Option (List ℕ)} some (all c sc);
        }

  -- all votes after the phases are 0: all end on none, and not all held one record
  decides_zero : (i : ℕ) → votes C (phases n) i ≡ 0 → decides C i ≡ none
  decides_zero i e = E.decides_none C (base (phases n)) (disseminates n) (places C) (held_last C) i (last_vote i ∙ ap (λ (v : ℕ). eqb v 1) e)

  on_none : ((i : ℕ) → Sound n H i → votes C (phases n) i ≡ 0) → Decision C
  on_none zeros =
      record {
        decided = none;
        same_outcome = λ i si. decides_zero i (zeros i si);
        many_held = λ r e.
            let z : ◌≡◌ {A = ℕ} 0 1 = cc in absurd (omega arith);
        all_alike = λ r all.
            let (k, l, sk) = sound_king C.wall in
            let ones = validity C.wall (votes C) (phase C) 1 (omega arith) (λ i si. start_one i ((graded C).validity r all i si)) in
            absurd (omega (arith, zeros (suc k) sk, ones (suc k) sk));
      }

  pub decision : Decision C
  unfolding Found
  decision = let (b, hb, all) = agreement C.wall (votes C) (phase C) start_bits in go b hb all (dec_le 1 (count top n))
    where
      go : (b : ℕ) → b ≤ 1 → ((i : ℕ) → Sound n H i → votes C (phases n) i ≡ b) → Dec (1 ≤ count top n) → Decision C
      go zero hb all q = on_none all
      go (suc zero) hb all (yes q) =
          let (c, l, u, h) = find top n q in
          let sc : Sound n H c = (l, u, search conj) in
          let two : T (eqb (g c) 2) = search conj in
          on_record all c sc (eqb→eq (g c) 2 two)
      go (suc zero) hb all (no q) =
          let (k, l, sk) = sound_king C.wall in
          absurd (omega (arith, all (suc k) sk, validity C.wall (votes C) (phase C) 0 (omega arith) (start_zero (omega arith)) (suc k) sk))
      go (suc (suc b)) hb all q = absurd (omega arith)
