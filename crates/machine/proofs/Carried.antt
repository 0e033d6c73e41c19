-- THE THEOREM: if M does what N does and every run of N meets the claims, every run of M meets them (`demand_carried`, `settled_carried`, `posted_carried`). A run of
-- M is carried to one of N by its leading calls alone, since the others change nothing: so of N the claims need be proved of lists in turn only.
use Rattle.std.proofs.Math.Path.{◌≡◌, refl, ap, ap₂}
use Rattle.std.proofs.Common.{sym, subst, ◌∙◌}
use Rattle.std.specs.Prelude.{Bool, eqb, leb, length, get_or}
use mathlib.Core.List.{List, [], ◌∷◌, ◌++◌, append-nil}
use Rattle.std.proofs.Math.Option.{Option}
use Prim.Native.Nat.{ℕ, zero, suc, ◌+◌, ◌-◌, ◌*◌, ◌≤◌}
use native.Mathlib.Omega.{arith}
use Rattle.std.proofs.Math.Dec.{T}
use Rattle.lists.specs.Tests.{conj, and_both}
use Rattle.lists.specs.Count.{mono}
use Rattle.protocols.specs.declared.Protocol.{Protocol}
use Rattle.protocols.specs.declared.Protocol.TheVariants.{Agreement}
use Rattle.sizes.specs.Sizes.{refusal as refusal_of_sizes}
use Rattle.sizes.proofs.Laws.{not_refused as sizes_accepted}
use Rattle.protocols.specs.Protocols.{rounds_in, values_in, beside}
use Rattle.protocols.proofs.Laws.{rounds_agreement}
use Rattle.messages.specs.Wall.{Sound, holds}
use Rattle.messages.proofs.Delivery.{delivered_as}
use Rattle.dispersal.specs.Run.{Graded, keeps}
use Rattle.machine.specs.Machine.{Call, Asks, Machine}
use Rattle.machine.specs.Lists.{Item, leading, extra, leading_calls, all_leading, in_turn, final, after_leading, turns, idle, allowed, none_refused, wrote, made, Run, EveryRun, EveryTurn, Accepted, AtEnd, Behind, Answers}
use Rattle.machine.specs.Claim.{Agreed, leaves, Demand}
use Rattle.machine.specs.Settled.{Settled}
use Rattle.machine.specs.Gradecast.{Gradecast, Outputs, Posted}
use Rattle.machine.specs.Simulates.{Makes, Plain, Simulates}

-- THE SAME AT THE SOUND COLUMNS

module _ {n : ℕ} {H : ℕ → Bool} where
  graded_as : {held : ℕ → List ℕ} (g g' : ℕ → ℕ) → ((i : ℕ) → Sound n H i → g' i ≡ g i) → Graded n H held g → Graded n H held g'
  graded_as {held} g g' e G =
      record {
        validity = λ r all i si. e i si ∙ G.validity r all i si;
        enough = λ c sc two.
            omega (
              arith,
              G.enough c sc (sym (e c sc) ∙ two),
              mono (keeps H held g (held c)) (keeps H held g' (held c)) n (λ i l u h.
                  let si : Sound n H i = (l, u, search conj) in
                  let one : T (leb 1 (g i)) = search conj in
                  and_both (holds H held (held c) i) (leb 1 (g' i)) (search conj) (rw (e i si) one)),
            );
        others = λ c i sc si two ne. e i si ∙ G.others c i sc si (sym (e c sc) ∙ two) ne;
      }

  pub agreed_as : {held : ℕ → List ℕ} (v v' : ℕ → Option (List ℕ)) (g g' : ℕ → ℕ) → ((i : ℕ) → Sound n H i → v' i ≡ v i) → ((i : ℕ) → Sound n H i → g' i ≡ g i)
      → Agreed n H held v g → Agreed n H held v' g'
  agreed_as v v' g g' same e A =
      record { decided = A.decided; same_outcome = λ i si. same i si ∙ A.same_outcome i si; many_held = A.many_held; all_alike = A.all_alike; grades = graded_as g g' e A.grades }

  pub gradecast_as : {s : ℕ} {r : List ℕ} (g g' : ℕ → ℕ) (v v' : ℕ → Option (List ℕ)) → ((i : ℕ) → Sound n H i → (g' i ≡ g i) × (v' i ≡ v i))
      → Gradecast n H s r g v → Gradecast n H s r g' v'
  gradecast_as g g' v v' e G =
      record {
        small = λ i si. rw (e i si).0 (G.small i si);
        sound_poster = λ ss i si. ((e i si).0 ∙ (G.sound_poster ss i si).0, (e i si).1 ∙ (G.sound_poster ss i si).1);
        binds = λ c i sc si w two has.
            let b = G.binds c i sc si w (sym (e c sc).0 ∙ two) (sym (e c sc).1 ∙ has) in
            (rw (e i si).0 b.0, (e i si).1 ∙ b.1);
        two_has_record = λ c sc two has. G.two_has_record c sc (sym (e c sc).0 ∙ two) (sym (e c sc).1 ∙ has);
        none_at_zero = λ i si has. (e i si).0 ∙ G.none_at_zero i si (sym (e i si).1 ∙ has);
        record_above = λ i si w has. rw (e i si).0 (G.record_above i si w (sym (e i si).1 ∙ has));
      }

-- A PART OF A LIST, its front, meets the premises by itself
calls_append : {K : Type 0} (call : K → Call) (before behind : List (Item K)) → leading_calls call (before ++ behind) ≡ leading_calls call before ++ leading_calls call behind
unfolding leading_calls
calls_append call [] behind = refl
calls_append call (leading k ∷ before) behind = ap (λ (calls : List Call). call k ∷ calls) (calls_append call before behind)
calls_append call (extra k ∷ before) behind = calls_append call before behind

leading_append : {K : Type 0} (before behind : List K) → all_leading (before ++ behind) ≡ all_leading before ++ all_leading behind
unfolding all_leading
leading_append [] behind = refl
leading_append (k ∷ before) behind = ap (λ (items : List (Item _)). leading k ∷ items) (leading_append before behind)

-- two calls a round
turns_length : (out inbox : ℕ → List ℕ) (round left : ℕ) → length (turns out inbox round left) ≡ 2 * left
unfolding turns
turns_length out inbox round zero = refl
turns_length out inbox round (suc left) = omega (arith, turns_length out inbox (suc round) left)

module _ {S K : Type 0} (M : Machine S K) where
  allowed_before : (s : S) (before behind : List (Item K)) → T (allowed M s (before ++ behind)) → T (allowed M s before)
  unfolding allowed
  allowed_before s [] behind h = tt
  allowed_before s (leading k ∷ before) behind h =
      let first : T (M.required k) = search conj in
      let others : T (allowed M (M.after s k) (before ++ behind)) = search conj in
      and_both (M.required k) (allowed M (M.after s k) before) first (allowed_before (M.after s k) before behind others)
  allowed_before s (extra k ∷ before) behind h =
      let quiet : T (idle M s k) = search conj in
      let others : T (allowed M (M.after s k) (before ++ behind)) = search conj in
      and_both (idle M s k) (allowed M (M.after s k) before) quiet (allowed_before (M.after s k) before behind others)

  -- what a column is made with
  pub makes : {p : Protocol} {n m : ℕ} {H : ℕ → Bool} {held : ℕ → List ℕ} {lists : ℕ → List (Item K)} {out inbox : ℕ → ℕ → List ℕ}
      → Run M p n m H held lists out inbox → (i : ℕ) → Sound n H i → Makes p n m i (held i)
  makes {p} {n} {m} {held} R i si = record { own_fits = sized i si.0 si.1; poster_fits = sized (beside p) R.poster_low R.poster_high; full = (R.records i si).0 }
    where
      sized : (number : ℕ) → 1 ≤ number → number ≤ n → refusal_of_sizes n m number ≡ 0
      sized number l h =
          sizes_accepted n m number (record {
            range = record { columns_low = R.wall.low; columns_high = R.wall.high; bytes_low = R.bytes_low; bytes_high = R.bytes_high };
            number_low = l;
            number_high = h;
          })

  -- so where a wall has settled, a sound column's list ends with that vote
  pub last_vote : {vote : S → ℕ} {n m : ℕ} {H : ℕ → Bool} {held : ℕ → List ℕ} {lists : ℕ → List (Item K)} {out inbox : ℕ → ℕ → List ℕ}
      → Run M Agreement n m H held lists out inbox → (D : Settled M vote n m H held lists) → (i : ℕ) → Sound n H i → vote (final M (made M n m held i) (lists i)) ≡ D.bit
  last_vote {n} {lists} {out} {inbox} R D i si =
      D.votes i si (lists i) [] (sym (append-nil (lists i)))
      (omega (arith, D.in_time, ap length (R.calls_in_turn i si), turns_length (out i) (inbox i) 1 (rounds_in Agreement n), rounds_agreement n))

-- LISTS OF LEADING CALLS ALONE meet the premises
module _ {S : Type 0} (N : Machine S Call) (plain : Plain N) where
  pub all_calls : (calls : List Call) → leading_calls N.call (all_leading calls) ≡ calls
  unfolding all_leading leading_calls
  all_calls [] = refl
  all_calls (call ∷ calls) = ap₂ (λ (call : Call) (calls : List Call). call ∷ calls) (plain call).0 (all_calls calls)

  pub all_allowed : (s : S) (calls : List Call) → T (allowed N s (all_leading calls))
  unfolding all_leading allowed
  all_allowed s [] = tt
  all_allowed s (call ∷ calls) = and_both (N.required call) (allowed N (N.after s call) (all_leading calls)) (plain call).1 (all_allowed (N.after s call) calls)

  -- behind the last of them stands nothing
  cut : (calls : List Call) (before behind : List (Item Call)) → all_leading calls ≡ before ++ behind → leading_calls N.call behind ≡ [] → all_leading calls ≡ before
  unfolding all_leading leading_calls
  cut [] [] behind e none_behind = refl
  cut [] (item ∷ before) behind e none_behind = let z : ◌≡◌ {A = ℕ} 0 1 = cc in absurd (omega arith)
  cut (call ∷ calls) [] behind e none_behind =
      let is : N.call call ∷ leading_calls N.call (all_leading calls) ≡ [] = ap (leading_calls N.call) e ∙ none_behind in
      let z : ◌≡◌ {A = ℕ} 0 1 = cc in
      absurd (omega arith)
  cut (call ∷ calls) (item ∷ before) behind e none_behind =
      let first : leading call ≡ item = cc in
      let others : all_leading calls ≡ before ++ behind = cc in
      ap₂ {C = List (Item Call)} (λ item items. item ∷ items) first (cut calls before behind others none_behind)

  -- so what is claimed at their end is claimed of every call for the outcome behind them
  pub asked : {p : Protocol} {n m : ℕ} {H : ℕ → Bool} {held : ℕ → List ℕ} {out inbox : ℕ → ℕ → List ℕ} → Run N p n m H held (in_turn p n out inbox) out inbox → (claim : ℕ → S → Call → Type 0)
      → ((i : ℕ) → Sound n H i → claim i (final N (made N n m held i) (in_turn p n out inbox i)) Asks) → AtEnd N n m H held (in_turn p n out inbox) claim
  asked {n} {m} {held} R claim h i si before behind e none_behind k asks full =
      subst (λ (items : List (Item Call)). claim i (final N (made N n m held i) items) k) (cut _ before behind e none_behind) (subst (claim i _) (sym asks ∙ (plain k).0) (h i si))

  -- cut anywhere, they have come to the state after so many of them
  cut_led : (s : S) (calls : List Call) (before behind : List (Item Call)) → all_leading calls ≡ before ++ behind
      → (length (leading_calls N.call before) ≤ length calls) × (final N s before ≡ after_leading N (length (leading_calls N.call before)) s (all_leading calls))
  unfolding all_leading leading_calls final after_leading
  cut_led s calls [] behind e = (omega arith, refl)
  cut_led s [] (item ∷ before) behind e = let z : ◌≡◌ {A = ℕ} 0 1 = cc in absurd (omega arith)
  cut_led s (call ∷ calls) (leading k ∷ before) behind e =
      let same : call ≡ k = cc in
      let others : all_leading calls ≡ before ++ behind = cc in
      let r = cut_led (N.after s k) calls before behind others in
      (omega (arith, r.0), rw same r.1)
  cut_led s (call ∷ calls) (extra k ∷ before) behind e = let z : ◌≡◌ {A = ℕ} 0 1 = cc in absurd (omega arith)

  -- so what is claimed after every number of them, from j on, is claimed at every place behind the first j
  pub passed : {p : Protocol} {n m : ℕ} {H : ℕ → Bool} {held : ℕ → List ℕ} {out inbox : ℕ → ℕ → List ℕ} → Run N p n m H held (in_turn p n out inbox) out inbox → (j : ℕ) (claim : ℕ → S → Type 0)
      → ((i : ℕ) → Sound n H i → (k : ℕ) → j ≤ k → k ≤ 2 * rounds_in p n → claim i (after_leading N k (made N n m held i) (in_turn p n out inbox i))) → Behind N j n m H held (in_turn p n out inbox) claim
  passed {p} {n} {m} {held} {out} {inbox} R j claim h i si before behind e l =
      let (few, is) = cut_led (made N n m held i) _ before behind e in
      subst (claim i) (sym is) (h i si _ l (omega (arith, few, turns_length (out i) (inbox i) 1 (rounds_in p n))))

-- A RUN MOVED to another machine, with other lists whose leading calls are the same and write the same
pub moved : {S K S' K' : Type 0} {p : Protocol} {M : Machine S K} (N : Machine S' K') {n m : ℕ} {H : ℕ → Bool} {held : ℕ → List ℕ} {lists : ℕ → List (Item K)} {out inbox : ℕ → ℕ → List ℕ}
    → Run M p n m H held lists out inbox → (lists' : ℕ → List (Item K')) → ((i : ℕ) → leading_calls N.call (lists' i) ≡ turns (out i) (inbox i) 1 (rounds_in p n))
    → ((i : ℕ) → T (allowed N (made N n m held i) (lists' i))) → ((j : ℕ) → Sound n H j → wrote M (made M n m held j) (lists j) ≡ wrote N (made N n m held j) (lists' j))
    → Run N p n m H held lists' out inbox
moved {p} {M} N {n} {m} {H} {held} {lists} {inbox} R lists' calls allow same =
    record {
      wall = R.wall;
      bytes_low = R.bytes_low;
      bytes_high = R.bytes_high;
      poster_low = R.poster_low;
      poster_high = R.poster_high;
      records = R.records;
      calls_in_turn = λ i si. calls i;
      out_length = R.out_length;
      inbox_length = R.inbox_length;
      extras = λ i si. allow i;
      mail = λ r l u.
          delivered_as n H (values_in p n m r) (values_in p n m r) (λ j. get_or (wrote M (made M n m held j) (lists j)) (r - 1) []) (λ j. get_or (wrote N (made N n m held j) (lists' j)) (r - 1) []) (λ i. inbox i r) refl
          (λ j sj. ap (λ (slices : List (List ℕ)). get_or slices (r - 1) []) (same j sj)) (R.mail r l u);
    }

module _ {S K S' : Type 0} {p : Protocol} {M : Machine S K} {N : Machine S' Call} (Z : Simulates p M N) where
  -- THE LIST ON N: the leading calls
  abbrev pub leads : List (Item K) → List (Item Call)
  leads items = all_leading (leading_calls M.call items)

  -- what a list comes to on both
  pub record Tracks (s : S) (s' : S') (items : List (Item K)) (leads : List (Item Call)) : Type 0 where
    pub ended : Z.Is (final M s items) (final N s' leads)
    pub led : (j : ℕ) → Z.Is (after_leading M j s items) (after_leading N j s' leads)
    pub slices : wrote M s items ≡ wrote N s' leads
    pub refuses : T (none_refused N s' leads) → T (none_refused M s items)

  pub tracks : (s : S) (s' : S') (items : List (Item K)) → Z.Is s s' → T (allowed M s items) → Tracks s s' items (leads items)
  unfolding all_leading leading_calls final after_leading wrote none_refused allowed
  tracks s s' [] is h = record { ended = is; led = led_on; slices = refl; refuses = λ t. t }
    where
      led_on : (j : ℕ) → Z.Is (after_leading M j s []) (after_leading N j s' [])
      led_on zero = is
      led_on (suc j) = is
  tracks s s' (extra k ∷ items) is h =
      let quiet : T (idle M s k) = search conj in
      let others : T (allowed M (M.after s k) items) = search conj in
      go (tracks (M.after s k) s' items (Z.idle_keeps s s' k is quiet) others)
    where
      go : Tracks (M.after s k) s' items (leads items) → Tracks s s' (extra k ∷ items) (leads items)
      go t = record { ended = t.ended; led = led_on; slices = t.slices; refuses = t.refuses }
        where
          led_on : (j : ℕ) → Z.Is (after_leading M j s (extra k ∷ items)) (after_leading N j s' (leads items))
          led_on zero = is
          led_on (suc j) = t.led (suc j)
  tracks s s' (leading k ∷ items) is h =
      let first : T (M.required k) = search conj in
      let others : T (allowed M (M.after s k) items) = search conj in
      go first (tracks (M.after s k) (N.after s' (M.call k)) items (Z.same_after s s' k is first) others)
    where
      go : T (M.required k) → Tracks (M.after s k) (N.after s' (M.call k)) items (leads items) → Tracks s s' (leading k ∷ items) (leading (M.call k) ∷ leads items)
      go first t =
          record {
            ended = t.ended;
            led = led_on;
            slices = rw ((Z.plain (M.call k)).0, Z.same_written s s' k is first, t.slices) refl;
            refuses = λ h.
                let zero_there : T (eqb (N.refusal s' (M.call k)) 0) = search conj in
                let others : T (none_refused N (N.after s' (M.call k)) (leads items)) = search conj in
                and_both (eqb (M.refusal s k) 0) (none_refused M (M.after s k) items) (rw (Z.same_refusal s s' k is first) zero_there) (t.refuses others);
          }
        where
          led_on : (j : ℕ) → Z.Is (after_leading M j s (leading k ∷ items)) (after_leading N j s' (leading (M.call k) ∷ leads items))
          led_on zero = is
          led_on (suc j) = t.led j

  outputs_back : (m : ℕ) (value : Option (List ℕ)) (s : S) (s' : S') (k : K) → Z.Is s s' → T (M.required k) → M.call k ≡ Asks
      → Answers N m value s' Asks → Answers M m value s k × (M.told_grade s k ≡ N.told_grade s' Asks)
  outputs_back m value s s' k is full asks a =
      let done = Z.same_refusal s s' k is full ∙ ap (N.refusal s') asks ∙ a.0 in
      let told = Z.same_told s s' k is full asks done in
      ((done, told.0 m ∙ a.1), told.1)

  module _ {n m : ℕ} {H : ℕ → Bool} {held : ℕ → List ℕ} {lists : ℕ → List (Item K)} {out inbox : ℕ → ℕ → List ℕ} (R : Run M p n m H held lists out inbox) where
    abbrev lists' : ℕ → List (Item Call)
    lists' = in_turn p n out inbox

    module _ (i : ℕ) (si : Sound n H i) where
      made_is : (M.fresh_refusal n m i (held i) ≡ N.fresh_refusal n m i (held i)) × Z.Is (made M n m held i) (made N n m held i)
      unfolding made
      made_is = Z.same_fresh n m i (held i) (makes M R i si)

      -- a front part of its list
      front : (before behind : List (Item K)) → lists i ≡ before ++ behind → Tracks (made M n m held i) (made N n m held i) before (leads before)
      front before behind e = tracks _ _ before made_is.1 (allowed_before M (made M n m held i) before behind (rw e at (R.extras i si)))

      -- the leading calls of both parts are those in turn
      parted : (before behind : List (Item K)) → lists i ≡ before ++ behind → turns (out i) (inbox i) 1 (rounds_in p n) ≡ leading_calls M.call before ++ leading_calls M.call behind
      parted before behind e = sym (R.calls_in_turn i si) ∙ ap (leading_calls M.call) e ∙ calls_append M.call before behind

      -- a front part with all of them
      upto : (before behind : List (Item K)) → lists i ≡ before ++ behind → leading_calls M.call behind ≡ [] → Tracks (made M n m held i) (made N n m held i) before (lists' i)
      upto before behind e none_behind =
          subst (λ (calls : List Call). Tracks (made M n m held i) (made N n m held i) before (all_leading calls))
          (sym (parted before behind e ∙ ap (λ (calls : List Call). leading_calls M.call before ++ calls) none_behind ∙ append-nil (leading_calls M.call before))) (front before behind e)

      whole : Tracks (made M n m held i) (made N n m held i) (lists i) (lists' i)
      unfolding leading_calls
      whole = upto (lists i) [] (sym (append-nil (lists i))) refl

    -- THE RUN ON N
    carried : Run N p n m H held lists' out inbox
    carried = moved N R lists' (λ i. all_calls N Z.plain _) (λ i. all_allowed N Z.plain (made N n m held i) _) (λ j sj. (whole j sj).slices)

    -- AND THE CLAIMS BACK
    accepted_back : Accepted N n m H held lists' → Accepted M n m H held lists
    accepted_back A i si = ((made_is i si).0 ∙ (A i si).0, (whole i si).refuses (A i si).1)

    -- of a call for the outcome behind the last leading call
    at_end_back : (claim : ℕ → S → K → Type 0) (claim' : ℕ → S' → Call → Type 0)
        → ((i : ℕ) (s : S) (s' : S') (k : K) → Z.Is s s' → T (M.required k) → M.call k ≡ Asks → claim' i s' Asks → claim i s k)
        → AtEnd N n m H held lists' claim' → AtEnd M n m H held lists claim
    unfolding leading_calls
    at_end_back claim claim' back A i si before behind e none_behind k asks full =
        back i _ _ k (upto i si before behind e none_behind).ended full asks (A i si (lists' i) [] (sym (append-nil (lists' i))) refl Asks (Z.plain Asks).0 (Z.plain Asks).1)

    -- at every place behind the first j leading calls
    behind_back : (j : ℕ) (claim : ℕ → S → Type 0) (claim' : ℕ → S' → Type 0) → ((i : ℕ) (s : S) (s' : S') → Z.Is s s' → claim' i s' → claim i s)
        → Behind N j n m H held lists' claim' → Behind M j n m H held lists claim
    behind_back j claim claim' back A i si before behind e l =
        back i _ _ (front i si before behind e).ended
        (A i si (leads before) (leads behind) (ap {B = List (Item Call)} all_leading (parted i si before behind e) ∙ leading_append (leading_calls M.call before) (leading_calls M.call behind)) (rw (all_calls N Z.plain (leading_calls M.call before)) l))

    settled_back : (vote : S → ℕ) (vote' : S' → ℕ) → ((s : S) (s' : S') → Z.Is s s' → vote s ≡ vote' s') → Settled N vote' n m H held lists' → Settled M vote n m H held lists
    settled_back vote vote' same D =
        record {
          king = D.king;
          sound = D.sound;
          lowest = D.lowest;
          in_time = D.in_time;
          bit = D.bit;
          votes = behind_back (2 * (3 * D.king + 3)) (λ i s. vote s ≡ D.bit) (λ i s. vote' s ≡ D.bit) (λ i s s' is h. same s s' is ∙ h) D.votes;
        }

    demand_back : Demand N n m H held lists' → Demand M n m H held lists
    demand_back D =
        record {
          accepted = accepted_back D.accepted;
          value = D.value;
          outputs = at_end_back (λ i. Answers M m (D.value i)) (λ i. Answers N m (D.value i)) (λ i s s' k is full asks a. (outputs_back m (D.value i) s s' k is full asks a).0) D.outputs;
          agreed = agreed_as D.value D.value (leaves N n m held lists') (leaves M n m held lists) (λ i si. refl) (λ i si. Z.same_grade _ _ ((whole i si).led 6)) D.agreed;
        }

    posted_back : {s : ℕ} → Posted N s n m H held lists' → Posted M s n m H held lists
    posted_back D =
        record {
          accepted = accepted_back D.accepted;
          grade = D.grade;
          value = D.value;
          outputs = at_end_back (λ i. Outputs M m (D.grade i) (D.value i)) (λ i. Outputs N m (D.grade i) (D.value i)) (λ i s s' k is full asks a.
              let b = outputs_back m (D.value i) s s' k is full asks a.0 in
              (b.0, b.1 ∙ a.1)) D.outputs;
          gradecast = D.gradecast;
        }

  -- THE THEOREM, of an agreement and of a posting
  pub demand_carried : EveryTurn N p (Demand N) → EveryRun M p (Demand M)
  demand_carried every n m H held lists out inbox R = demand_back R (every n m H held out inbox (carried R))

  -- where the vote is the same too
  pub settled_carried : (vote : S → ℕ) (vote' : S' → ℕ) → ((s : S) (s' : S') → Z.Is s s' → vote s ≡ vote' s') → EveryTurn N p (Settled N vote') → EveryRun M p (Settled M vote)
  settled_carried vote vote' same every n m H held lists out inbox R = settled_back R vote vote' same (every n m H held out inbox (carried R))

  pub posted_carried : (s : ℕ) → EveryTurn N p (Posted N s) → EveryRun M p (Posted M s)
  posted_carried s every n m H held lists out inbox R = posted_back R (every n m H held out inbox (carried R))

-- A MACHINE DOES WHAT IT DOES ITSELF, where a call that is refused or for the outcome leaves the state as it came
unfoldable pub itself : {S : Type 0} (p : Protocol) (N : Machine S Call) → Plain N → ((s : S) (call : Call) → T (idle N s call) → N.after s call ≡ s) → Simulates p N N
itself p N plain keeps =
    record {
      plain = plain;
      Is = λ s s'. s ≡ s';
      same_fresh = λ n m own bytes makes. (refl, refl);
      same_refusal = λ s s' k is h. ap₂ N.refusal is (sym (plain k).0);
      same_after = λ s s' k is h. ap₂ N.after is (sym (plain k).0);
      same_written = λ s s' k is h. ap₂ N.written is (sym (plain k).0);
      same_told = λ s s' k is h asks done.
          let k_is = sym (plain k).0 ∙ asks in
          (λ m. ap₂ (λ (s : _) (k : Call). N.told s k m) is k_is, ap₂ N.told_grade is k_is);
      idle_keeps = λ s s' k is quiet. keeps s k quiet ∙ is;
      same_grade = λ s s' is. ap N.grade is;
    }
