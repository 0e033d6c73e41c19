-- What listening in a round of each kind does to a column: what is proved by cases on the kind stands here. A new kind adds its clause to each.
use Rattle.std.specs.Prelude.{◌≡◌, refl, Bool, true, false, cond, List, ℕ, ◌≤◌, ◌<◌, T, eqb, ltb, leb, length, get_or, replicate}
use Rattle.std.proofs.Common.{◌∙◌, true≢false, arith, le-ltb, lt→ltb, ltb→lt}
use Rattle.std.proofs.Math.Option.{Option, none, some}
use Rattle.std.proofs.lemmas.List.{get_or-replicate}
use Rattle.lists.specs.Lists.{all, list_of}
use Rattle.lists.specs.Tests.{eq→eqb}
use Rattle.lists.specs.Entries.{length_list_of, get_d_list_of}
use Rattle.sizes.specs.Sizes.{blocks}
use Rattle.protocols.specs.declared.Protocol.{Protocol}
use Rattle.protocols.specs.declared.Kind.{Kind}
use Rattle.protocols.specs.declared.Kind.TheVariants.{Exchange, FirstReport, SecondReport, Votes, Proposals, King, Points, KeptPoints, Post}
use Rattle.protocols.specs.Protocols.{rounds_in, posts}
use Rattle.king.specs.King.{crowned}
use Rattle.king.proofs.Laws.{proposal_reads, settled_bit, crowned_bit}
use Rattle.dispersal.specs.Dispersal.{agreement_at, agreements, agrees, report_at, reports, reported}
use Rattle.dispersal.specs.Laws.{agreements_past, reports_past}
use Rattle.dispersal.proofs.Graded.{grade_lt}
use Rattle.dissemination.specs.Dissemination.{is_block, byte_at, record_of, points_in, kept_at, kept_points}
use Rattle.dissemination.proofs.Laws.{kept_points_read, kept_points_past, record_past}
use Rattle.agreement.specs.declared.Stage.{Stage}
use Rattle.agreement.specs.declared.Column.{Column}
use Rattle.agreement.specs.Column.{stage_fits, byte_fits, fits}
use Rattle.agreement.specs.Post.{posted_by, sent_byte, posted_byte, taken_record, posted}
use Rattle.agreement.specs.Rounds.{vote_after, votes_one, spreads, message, received, king_said, graded, first_vote, resettled, outcome_of, ends_on, hears}
use Rattle.agreement.proofs.Endings.{ends_fits}
use Rattle.agreement.proofs.Ranges.{with_stage_lem, with_bytes_lem, with_proposal_lem, with_agreements_lem, with_reports_lem, with_grade_lem, with_vote_lem, with_kept_lem, vote_fits, bytes_were, flags_fit, bytes_fit, points_fit, either, first_fits}

-- what a round of the kind does to the record: 0 nothing, 1 it takes another, 2 it takes the one that was decoded, and ends the run
unfoldable pub touches : Kind → ℕ
touches Exchange = 0
touches FirstReport = 0
touches SecondReport = 0
touches Votes = 0
touches Proposals = 0
touches (King king) = 0
touches Points = 0
touches KeptPoints = 2
touches (Post s) = 1

-- it ends the run, and it may change the record
unfoldable pub ends : Kind → Bool
ends kind = eqb (touches kind) 2

unfoldable pub rewrites : Kind → Bool
rewrites kind = leb 1 (touches kind)

-- it may change the grade
unfoldable pub regrades : Kind → Bool
regrades Exchange = false
regrades FirstReport = false
regrades SecondReport = true
regrades Votes = false
regrades Proposals = false
regrades (King king) = false
regrades Points = false
regrades KeptPoints = false
regrades (Post s) = false

-- WHAT STAYS

-- a column runs p on a wall of n columns and m bytes and has the number `own`
pub record Fixed (p : Protocol) (n m own : ℕ) (p' : Protocol) (n' m' own' : ℕ) : Type 0 where
  pub protocol_is : p' ≡ p
  pub n_is : n' ≡ n
  pub m_is : m' ≡ m
  pub own_is : own' ≡ own

abbrev pub Is : Protocol → ℕ → ℕ → ℕ → Column → Type 0
Is p n m own c = Fixed p n m own c.protocol c.n c.m c.own

-- so it is after every round
pub hears_is : {p : Protocol} {n m own : ℕ} (kind : Kind) (next : Stage) (c : Column) (inbox : List ℕ) → Is p n m own c → Is p n m own (hears kind next c inbox)
unfolding hears ends_on
hears_is Exchange next c inbox h = h
hears_is FirstReport next c inbox h = h
hears_is SecondReport next c inbox h = h
hears_is Votes next c inbox h = h
hears_is Proposals next c inbox h = h
hears_is (King king) next c inbox h = h
hears_is Points next c inbox h = h
hears_is {p} {n} {m} {own} KeptPoints next c inbox h = go (outcome_of c inbox)
  where
    go : (o : Option (List ℕ)) → Is p n m own (ends_on o c)
    go none = h
    go (some bytes) = h
hears_is (Post s) next c inbox h = h

-- and it goes on, where the round does not end the run
pub hears_next : (kind : Kind) (next : Stage) (c : Column) (inbox : List ℕ) → ends kind ≡ false → (hears kind next c inbox).stage ≡ next
unfolding hears touches ends
hears_next Exchange next c inbox e = refl
hears_next FirstReport next c inbox e = refl
hears_next SecondReport next c inbox e = refl
hears_next Votes next c inbox e = refl
hears_next Proposals next c inbox e = refl
hears_next (King king) next c inbox e = refl
hears_next Points next c inbox e = refl
hears_next KeptPoints next c inbox e = absurd (true≢false e)
hears_next (Post s) next c inbox e = refl

-- the record, where no round rewrites it
pub kept_bytes : (kind : Kind) (next : Stage) (c : Column) (inbox : List ℕ) → rewrites kind ≡ false → (hears kind next c inbox).bytes ≡ c.bytes
unfolding hears touches rewrites
kept_bytes Exchange next c inbox e = refl
kept_bytes FirstReport next c inbox e = refl
kept_bytes SecondReport next c inbox e = refl
kept_bytes Votes next c inbox e = refl
kept_bytes Proposals next c inbox e = refl
kept_bytes (King king) next c inbox e = refl
kept_bytes Points next c inbox e = refl
kept_bytes KeptPoints next c inbox e = absurd (true≢false e)
kept_bytes (Post s) next c inbox e = absurd (true≢false e)

-- the grade
pub kept_grade : (kind : Kind) (next : Stage) (c : Column) (inbox : List ℕ) → regrades kind ≡ false → (hears kind next c inbox).grade ≡ c.grade
unfolding hears ends_on regrades
kept_grade Exchange next c inbox e = refl
kept_grade FirstReport next c inbox e = refl
kept_grade SecondReport next c inbox e = absurd (true≢false e)
kept_grade Votes next c inbox e = refl
kept_grade Proposals next c inbox e = refl
kept_grade (King king) next c inbox e = refl
kept_grade Points next c inbox e = refl
kept_grade KeptPoints next c inbox e = go (outcome_of c inbox)
  where
    go : (o : Option (List ℕ)) → (ends_on o c).grade ≡ c.grade
    go none = refl
    go (some bytes) = refl
kept_grade (Post s) next c inbox e = refl

-- THE RANGES. No call leaves a state that a later one would refuse with 11

-- the vote after the second reports
after_fits : (p : Protocol) (before g : ℕ) → T (ltb before 2) → g < 3 → T (ltb (vote_after p before (first_vote g)) 2)
unfolding vote_after
after_fits p before g b l = go (posts p)
  where
    go : (post : Bool) → T (ltb (cond post before (first_vote g)) 2)
    go true = b
    go false = first_fits g l

pub hears_fits : (kind : Kind) (next : Stage) (c : Column) (inbox : List ℕ) → (ends kind ≡ false → T (stage_fits (rounds_in c.protocol c.n) next)) → T (fits c) → T (fits (hears kind next c inbox))
unfolding hears graded resettled outcome_of posted taken_record posted_byte touches ends
hears_fits Exchange next c inbox l h =
    with_stage_lem _ (with_agreements_lem c h _ (flags_fit c.n _ (agreements_past c.n c.m c.own c.bytes inbox))) next (l refl)
hears_fits FirstReport next c inbox l h = with_stage_lem _ (with_reports_lem c h _ (flags_fit c.n _ (reports_past c.n (received FirstReport c inbox)))) next (l refl)
hears_fits SecondReport next c inbox l h =
    let small : graded c inbox < 3 = grade_lt c.n c.own (agrees c.agreements) (reported c.reports) (received SecondReport c inbox) in
    with_stage_lem _ (with_grade_lem _ (with_vote_lem c h _ c.firm (after_fits c.protocol c.vote (graded c inbox) (vote_fits c h) small)) _ (lt→ltb (graded c inbox) 3 small)) next (l refl)
hears_fits Votes next c inbox l h = with_stage_lem _ (with_proposal_lem c h _ (eq→eqb _ _ (proposal_reads c.n (received Votes c inbox)))) next (l refl)
hears_fits Proposals next c inbox l h =
    with_stage_lem _ (with_vote_lem c h _ _ (lt→ltb (resettled c inbox) 2 (settled_bit c.n (received Proposals c inbox) c.vote (ltb→lt c.vote 2 (vote_fits c h))))) next (l refl)
hears_fits (King king) next c inbox l h =
    let vote : ℕ = crowned c.firm c.vote (king_said king c inbox) in
    let small : vote ≤ 1 = crowned_bit c.firm c.vote (king_said king c inbox) (omega (arith, ltb→lt c.vote 2 (vote_fits c h))) in
    with_stage_lem _ (with_vote_lem c h vote c.firm (lt→ltb vote 2 (omega arith))) next (l refl)
hears_fits Points next c inbox l h =
    with_stage_lem _ (with_kept_lem c h _ (points_fit (blocks c.n c.m) _ (kept_points_read c.n c.m c.own (spreads c) c.bytes inbox) (kept_points_past c.n c.m c.own (spreads c) c.bytes inbox))) next (l refl)
hears_fits KeptPoints next c inbox l h = ends_fits c h (outcome_of c inbox) (decoded_past (votes_one c) _)
  where
    decoded_past : (b : Bool) (received : ℕ → ℕ → ℕ) (r : List ℕ) (p : ℕ) → ◌≡◌ {A = Option (List ℕ)} (cond b (record_of c.n c.m received) none) (some r) → c.m ≤ p → p < 32 → get_or r p 0 ≡ 0
    decoded_past true received r p e u v = record_past c.n c.m received r p e u v
    decoded_past false received r p e u v = let z : ◌≡◌ {A = ℕ} 0 1 = cc in absurd (omega arith)
hears_fits (Post s) next c inbox l h = with_stage_lem _ (with_bytes_lem c h _ (either Fits (eqb c.own s) _ _ (bytes_were c h) (either Fits (all (sent_byte (posted_by s c inbox)) c.m) _ _ sent_fits zeros_fit))) next (l refl)
  where
    Fits : List ℕ → Type 0
    Fits bytes = T (all (byte_fits c.m bytes) 32)

    sent_fits : Fits (list_of (posted_byte c.m (posted_by s c inbox)) 32)
    sent_fits =
        bytes_fit c.m (list_of (posted_byte c.m (posted_by s c inbox)) 32) (λ q l u.
        get_d_list_of (posted_byte c.m (posted_by s c inbox)) 32 q 0 u ∙ rw (le-ltb q c.m l) refl)

    zeros_fit : Fits (replicate 32 0)
    zeros_fit = bytes_fit c.m (replicate 32 0) (λ q l u. get_or-replicate 32 q 0 0 u)

-- THE LENGTHS of a column's arrays

-- as the type of a column has them
pub record Lengths (bytes : List ℕ) (agreements reports : List Bool) (kept : List ℕ) : Type 0 where
  pub of_bytes : length bytes ≡ 32
  pub of_agreements : length agreements ≡ 31
  pub of_reports : length reports ≡ 31
  pub of_kept : length kept ≡ 32

abbrev pub Shaped : Column → Type 0
Shaped c = Lengths c.bytes c.agreements c.reports c.kept

posted_length : (s : ℕ) (c : Column) (inbox : List ℕ) → length c.bytes ≡ 32 → length (posted s c inbox) ≡ 32
unfolding posted taken_record
posted_length s c inbox e = go (eqb c.own s) (all (sent_byte (posted_by s c inbox)) c.m)
  where
    go : (own sent : Bool) → length (cond own c.bytes (cond sent (list_of (posted_byte c.m (posted_by s c inbox)) 32) (replicate 32 0))) ≡ 32
    go true sent = e
    go false true = length_list_of (posted_byte c.m (posted_by s c inbox)) 32
    go false false = refl

-- ended, with vote `one`, on the record with the bytes f, where each block is one
ended_shaped : (c : Column) (f : ℕ → ℕ) (one each : Bool) → Shaped c → Shaped (ends_on (cond one (cond each (some (list_of f 32)) none) none) c)
unfolding ends_on
ended_shaped c f true true s = record { of_bytes = length_list_of f 32; of_agreements = s.of_agreements; of_reports = s.of_reports; of_kept = s.of_kept }
ended_shaped c f true false s = s
ended_shaped c f false each s = s

pub hears_shaped : (kind : Kind) (next : Stage) (c : Column) (inbox : List ℕ) → Shaped c → Shaped (hears kind next c inbox)
unfolding hears agreements reports kept_points outcome_of record_of
hears_shaped Exchange next c inbox s =
    record { of_bytes = s.of_bytes; of_agreements = length_list_of (agreement_at c.n c.m c.own c.bytes inbox) 31; of_reports = s.of_reports; of_kept = s.of_kept }
hears_shaped FirstReport next c inbox s =
    record { of_bytes = s.of_bytes; of_agreements = s.of_agreements; of_reports = length_list_of (report_at c.n (received FirstReport c inbox)) 31; of_kept = s.of_kept }
hears_shaped SecondReport next c inbox s = s
hears_shaped Votes next c inbox s = s
hears_shaped Proposals next c inbox s = s
hears_shaped (King king) next c inbox s = s
hears_shaped Points next c inbox s =
    record { of_bytes = s.of_bytes; of_agreements = s.of_agreements; of_reports = s.of_reports; of_kept = length_list_of (kept_at c.n c.m c.own (spreads c) c.bytes inbox) 32 }
hears_shaped KeptPoints next c inbox s =
    let received = points_in c.own (message KeptPoints c c.own) (blocks c.n c.m) inbox in
    ended_shaped c (byte_at c.n c.m received) (votes_one c) (all (is_block c.n c.m received) (blocks c.n c.m)) s
hears_shaped (Post poster) next c inbox s =
    record { of_bytes = posted_length poster c inbox s.of_bytes; of_agreements = s.of_agreements; of_reports = s.of_reports; of_kept = s.of_kept }
