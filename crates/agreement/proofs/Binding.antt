-- THEOREM 3.12, of the sound columns' courses in a posting: what they output meets Definition 3.10.
use Rattle.std.proofs.Math.Path.{◌≡◌, refl, ap}
use Rattle.std.proofs.Common.{sym, ◌∙◌, arith, eqb-true, eq-eqb}
use Rattle.std.specs.Prelude.{Bool, cond, ℕ, ◌≤◌, ◌<◌, T, length, get_or, take}
use Rattle.std.proofs.Math.Bool.{true, false}
use mathlib.Core.List.{List, []}
use Rattle.std.proofs.Math.Option.{Option, none, some}
use Rattle.std.proofs.lemmas.Bool.{eqb-false}
use Rattle.std.proofs.Math.Dec.{eqb}
use Rattle.lists.specs.Lists.{in_row, rows_of}
use Rattle.lists.specs.Rows.{in_row_rows_of}
use Rattle.lists.specs.Tests.{is_true}
use Rattle.field.specs.Field.{blank}
use Rattle.block.specs.Block.{part}
use Rattle.protocols.specs.declared.Protocol.{Protocol}
use Rattle.protocols.specs.declared.Protocol.TheVariants.{Posting}
use Rattle.messages.specs.Messages.{said}
use Rattle.messages.specs.Wall.{Sound, Delivered}
use Rattle.codeword.specs.Codeword.{Held}
use Rattle.codeword.specs.Places.{from_places}
use Rattle.dispersal.specs.Run.{Graded}
use Rattle.dissemination.specs.Dissemination.{spoken}
use Rattle.agreement.specs.declared.Column.{Column}
use Rattle.protocols.specs.declared.Kind.TheVariants.{Post}
use Rattle.protocols.specs.Protocols.{width, kinds, rounds_in, kind_in, beside, posts}
use Rattle.protocols.proofs.Laws.{rounds_posting}
use Rattle.agreement.specs.Column.{fresh_vote, brought, fresh_column, fits}
use Rattle.agreement.specs.Post.{posted_by, taken_record, posted}
use Rattle.agreement.specs.Rounds.{vote_in, vote_after, votes_one, message, outcome_of, ends_on, hears}
use Rattle.agreement.specs.Calls.{in_state, when_asked, outcome_refusal, ending, reply_of, outcome, grade_in, grade_shown}
use Rattle.machine.specs.Gradecast.{Gradecast}
use Rattle.agreement.proofs.Course.{course, listening}
use Rattle.agreement.proofs.Courses.{Courses, state as state_of, is, sent}
use Rattle.agreement.proofs.Dispersal as D
use Rattle.agreement.proofs.Dispersal.{Disperses}
use Rattle.agreement.proofs.Dissemination as E
use Rattle.agreement.proofs.Dissemination.{Disseminates}
use Rattle.agreement.proofs.Endings.{shortened, ended_vote}
use Rattle.agreement.proofs.Taken.{taken_held, taken_sent}

-- THE ROUNDS: after the poster's come those of dispersal, then those of dissemination

disperses : (s n : ℕ) → Disperses (Posting s) n 1
unfolding kind_in kinds
disperses s n = record { many = omega (arith, rounds_posting s n); kind₁ = refl; kind₂ = refl; kind₃ = refl }

pub disseminates : (s n : ℕ) → Disseminates (Posting s) n 4
unfolding kind_in kinds
disseminates s n = record { last = rounds_posting s n; kind₁ = refl; kind₂ = refl }

-- THE OUTCOME'S GRADE, from the dispersal grade and what decoding gave

pub if_record : Option (List ℕ) → ℕ
if_record none = 0
if_record (some r) = 1

pub out_grade : ℕ → Option (List ℕ) → ℕ
out_grade g o = cond (eqb g 2) 2 (if_record o)

-- it is what a column that ended answers
pub ended_grade : (s : ℕ) (c : Column) (o : Option (List ℕ)) → c.protocol ≡ Posting s → T (fits (ends_on o c)) → (outcome (ends_on o c)).grade ≡ out_grade c.grade o
unfolding outcome reply_of outcome_refusal in_state when_asked ending grade_shown grade_in out_grade if_record ends_on posts
ended_grade s c none e h =
    ap (λ (p : Protocol). grade_shown p c.grade (reply_of (ends_on none c))) e ∙ rw (is_true (fits (ends_on none c)) h) refl
ended_grade s c (some r) e h =
    ap (λ (p : Protocol). grade_shown p c.grade (reply_of (ends_on (some r) c))) e ∙ rw (is_true (fits (ends_on (some r) c)) h) refl

-- grade 2 is dispersal's; else it is 1 with a record, 0 without
record Graded_as (g x out : ℕ) : Type 0 where
  small : out ≤ 2
  above : x ≤ out
  two_is : out ≡ 2 → g ≡ 2
  two_out : g ≡ 2 → out ≡ 2
  else_is : (g ≡ 2 → ⊥) → out ≡ x

one_at_most : (o : Option (List ℕ)) → if_record o ≤ 1
unfolding if_record
one_at_most none = omega arith
one_at_most (some r) = omega arith

graded_as : (g : ℕ) (o : Option (List ℕ)) → Graded_as g (if_record o) (out_grade g o)
unfolding out_grade
graded_as g o = go (if_record o) (one_at_most o) (eqb g 2) refl
  where
    go : (x : ℕ) → x ≤ 1 → (b : Bool) → eqb g 2 ≡ b → Graded_as g x (cond b 2 x)
    go x l true e = record { small = omega arith; above = omega arith; two_is = λ h. eqb-true g 2 e; two_out = λ h. refl; else_is = λ no. absurd (no (eqb-true g 2 e)) }
    go x l false e = record { small = omega arith; above = omega arith; two_is = λ h. absurd (omega arith); two_out = λ h. absurd (eqb-false g 2 e h); else_is = λ no. refl }

-- the vote is 1 from first to last
pub vote_lasts : (s n m own : ℕ) (bytes : List ℕ) (inbox : ℕ → List ℕ) → (course (Posting s) n m own bytes inbox (rounds_in (Posting s) n)).vote ≡ 1
unfolding course kind_in kinds fresh_column fresh_vote vote_after hears posts
vote_lasts s n m own bytes inbox =
    ap (λ (q : ℕ). (course (Posting s) n m own bytes inbox q).vote) (rounds_posting s n)
    ∙ ended_vote (outcome_of (listening (Posting s) n m own bytes inbox 5) (inbox 6)) (listening (Posting s) n m own bytes inbox 5)

-- THE COURSES OF A POSTING

module _ {s n m : ℕ} {H : ℕ → Bool} {held : ℕ → List ℕ} {inbox : ℕ → ℕ → List ℕ} (C : Courses (Posting s) n m H held inbox) where
  abbrev pub state : ℕ → ℕ → Column
  state i q = state_of C i q

  -- the record that column i has after the poster spoke
  pub took : ℕ → List ℕ
  took i = (state i 1).bytes

  -- it keeps it up to the last round
  took_first : (i : ℕ) → (state i 1).bytes ≡ took i
  unfolding took
  took_first i = refl

  pub took_last : (i : ℕ) → (state i 4).bytes ≡ took i
  unfolding took course kind_in kinds hears
  took_last i = refl

  -- the poster its own; every other column what it heard of the poster
  took_is : (i : ℕ) → took i ≡ cond (eqb i s) (part (held i) 0 32) (taken_record m (λ k. in_row m (inbox i 1) s k blank))
  unfolding took course fresh_column brought kind_in kinds hears posted posted_by posts beside
  took_is i = go (eqb i s) refl
    where
      go : (b : Bool) → eqb i s ≡ b
          → ◌≡◌ {A = List ℕ} (cond b (part (cond b (held i) []) 0 32) (taken_record m (λ k. in_row m (inbox i 1) s k blank))) (cond b (part (held i) 0 32) (taken_record m (λ k. in_row m (inbox i 1) s k blank)))
      go true e = refl
      go false e = refl

  took_held : (i : ℕ) → Sound n H i → Held m (took i)
  took_held i si = rw (took_is i) (go (eqb i s))
    where
      go : (b : Bool) → Held m (cond b (part (held i) 0 32) (taken_record m (λ k. in_row m (inbox i 1) s k blank)))
      go true = C.records i si
      go false = taken_held m (λ k. in_row m (inbox i 1) s k blank)

  -- a sound poster's record is what every sound column takes
  posted_to : Delivered n H m (λ j. rows_of (λ i. said (spoken (eqb j s) (state j 0).bytes)) m n) (λ i. inbox i 1)
  unfolding kind_in kinds width course fresh_column message
  posted_to = sent C 0 (Post s) (λ j i. spoken (eqb j s) (state j 0).bytes) (omega (arith, rounds_posting s n)) refl (λ j i sj. refl)

  poster_holds : (state s 0).bytes ≡ part (held s) 0 32
  unfolding course fresh_column brought posts beside
  poster_holds = rw (eq-eqb s s refl) refl

  heard_poster : (i k : ℕ) → Sound n H i → Sound n H s → (s ≡ i → ⊥) → k < m → in_row m (inbox i 1) s k blank ≡ get_or (part (held s) 0 32) k blank
  unfolding Delivered spoken said
  heard_poster i k si ss ne l =
      posted_to i s k si ss ne l ∙ in_row_rows_of (λ i. said (spoken (eqb s s) (state s 0).bytes)) m n i k blank si.0 si.1 l ∙ rw (eq-eqb s s refl, poster_holds) refl

  took_posted : Sound n H s → (i : ℕ) → Sound n H i → took i ≡ part (held s) 0 32
  took_posted ss i si = took_is i ∙ go (eqb i s) refl
    where
      go : (b : Bool) → eqb i s ≡ b → cond b (part (held i) 0 32) (taken_record m (λ k. in_row m (inbox i 1) s k blank)) ≡ part (held s) 0 32
      go true e = ap (λ (j : ℕ). part (held j) 0 32) (eqb-true i s e)
      go false e =
          taken_sent m (λ k. in_row m (inbox i 1) s k blank) (part (held s) 0 32) C.bytes_high (C.records s ss) (λ k l. heard_poster i k si ss (λ q. eqb-false i s e (sym q)) l)

  -- the grade with which column i leaves dispersal, and what it decodes
  abbrev pub g : ℕ → ℕ
  g i = (state i 4).grade

  abbrev pub decides : ℕ → Option (List ℕ)
  decides = E.decides C 4 (disseminates s n) took took_last

  -- Theorem 3.3 of the records that the columns took
  graded : Graded n H took g
  graded = D.course_graded C 1 (disperses s n) took took_first took_held

  -- the grade lasts
  pub grade_stays : (i : ℕ) → (state i 5).grade ≡ g i
  unfolding course kind_in kinds hears
  grade_stays i = refl

  -- a sound grade 2: all end on its record
  two_decides : (c : ℕ) → Sound n H c → g c ≡ 2 → (i : ℕ) → Sound n H i → decides i ≡ some (took c)
  unfolding votes_one vote_in posts
  two_decides c sc two =
      E.grade_two_decides C 4 (disseminates s n) took took_last (λ i si. ap (λ (p : Protocol). eqb (vote_in p (state i 4).vote) 1) (is C i 4).protocol_is) g (λ i. refl) graded c sc two (took_held c sc)

  -- what column i outputs
  abbrev pub grades : ℕ → ℕ
  grades i = out_grade (g i) (decides i)

  abbrev pub values : ℕ → Option (List ℕ)
  values i = shortened m (decides i)

  law : (i : ℕ) → Graded_as (g i) (if_record (decides i)) (grades i)
  law i = graded_as (g i) (decides i)

  bound : (c i : ℕ) → Sound n H c → Sound n H i → grades c ≡ 2 → (values i ≡ some (take m (took c))) × (1 ≤ grades i)
  unfolding shortened if_record
  bound c i sc si two =
      let e = two_decides c sc ((law c).two_is two) i si in
      (ap (shortened m) e, omega (arith, (law i).above, ap if_record e))

  none_is : (i : ℕ) (o : Option (List ℕ)) → decides i ≡ o → shortened m o ≡ none → if_record (decides i) ≡ 0
  unfolding shortened if_record
  none_is i none e h = ap if_record e
  none_is i (some r) e h = let z : ◌≡◌ {A = ℕ} 0 1 = cc in absurd (omega arith)

  some_is : (i : ℕ) (o : Option (List ℕ)) (v : List ℕ) → decides i ≡ o → shortened m o ≡ some v → if_record (decides i) ≡ 1
  unfolding shortened if_record
  some_is i none v e h = let z : ◌≡◌ {A = ℕ} 0 1 = cc in absurd (omega arith)
  some_is i (some r) v e h = ap if_record e

  -- no sound column outputs grade 2 with none
  two_has : (c : ℕ) → Sound n H c → grades c ≡ 2 → values c ≡ none → ⊥
  two_has c sc two e = let h = (bound c c sc sc two).0 in let z : ◌≡◌ {A = ℕ} 0 1 = cc in absurd (omega arith)

  -- where the poster is sound, all leave with grade 2 and end on its record
  from_sound : Sound n H s → length (held s) ≡ m → (i : ℕ) → Sound n H i → (grades i ≡ 2) × (values i ≡ some (held s))
  unfolding shortened
  from_sound ss full i si =
      let two : (j : ℕ) → Sound n H j → g j ≡ 2 = graded.validity (part (held s) 0 32) (took_posted ss) in
      let e : decides i ≡ some (part (held s) 0 32) = two_decides s ss (two s ss) i si ∙ ap {B = Option (List ℕ)} some (took_posted ss s ss) in
      ((law i).two_out (two i si), ap (shortened m) e ∙ ap {B = Option (List ℕ)} some (from_places m C.bytes_high (held s) full))

  pub gradecast : (Sound n H s → length (held s) ≡ m) → Gradecast n H s (held s) grades values
  gradecast full =
      record {
        small = λ i si. (law i).small;
        sound_poster = λ ss i si. from_sound ss (full ss) i si;
        binds = λ c i sc si v two e. ((bound c i sc si two).1, (bound c i sc si two).0 ∙ sym (bound c c sc sc two).0 ∙ e);
        two_has_record = two_has;
        none_at_zero = λ i si e.
            let no : g i ≡ 2 → ⊥ = λ two. two_has i si ((law i).two_out two) e in (law i).else_is no ∙ none_is i (decides i) refl e;
        record_above = λ i si v e. omega (arith, (law i).above, some_is i (decides i) v refl e);
      }
