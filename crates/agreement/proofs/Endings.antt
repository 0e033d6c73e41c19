-- What a column that ended answers to a call for the outcome.
use Rattle.std.specs.Prelude.{◌≡◌, refl, cond, List, ℕ, ◌≤◌, ◌<◌, T, length, get_or, take}
use Rattle.std.proofs.Math.Option.{Option, none, some}
use Rattle.lists.specs.Tests.{is_true}
use Rattle.protocols.specs.declared.Protocol.{Protocol}
use Rattle.agreement.specs.declared.Column.{Column}
use Rattle.agreement.specs.Column.{stage_fits, fits}
use Rattle.agreement.specs.declared.Outcome.TheVariants.{Nothing, Record}
use Rattle.agreement.specs.declared.Stage.TheVariants as S
use Rattle.agreement.specs.Replies.{Reply}
use Rattle.agreement.specs.Replies.{Ended, Refused}
use Rattle.agreement.specs.Parts.{with_bytes}
use Rattle.agreement.specs.Rounds.{ends_on}
use Rattle.agreement.proofs.Ranges.{with_stage_lem, with_bytes_lem, bytes_fit}
use Rattle.agreement.specs.Calls.{in_state, when_asked, outcome_refusal, ending, reply_of, shown, outcome, refusal_in, record_in}
use Rattle.machine.specs.Machine.{Asks}
use Rattle.machine.specs.Lists.{Answers}
use Rattle.agreement.specs.Entries.{ends_on_record, entry_asked, sound_entry, ended_on}
use Rattle.agreement.specs.Machine.{refusal_at, machine}

-- none, or the m bytes of a record in its 32 places
unfoldable pub shortened : ℕ → Option (List ℕ) → Option (List ℕ)
shortened m none = none
shortened m (some r) = some (take m r)

pub ended_answers : (p : Protocol) (m : ℕ) (c : Column) (o : Option (List ℕ)) → T (fits (ends_on o c)) → Answers (machine p) m (shortened m o) (ends_on o c) Asks
unfolding refusal_at outcome reply_of outcome_refusal in_state when_asked ending shown refusal_in record_in ends_on shortened
ended_answers p m c none h = rw (is_true (fits (ends_on none c)) h) (refl, refl)
ended_answers p m c (some r) h = rw (is_true (fits (ends_on (some r) c)) h) (refl, refl)

-- an entry ends on what a call for the outcome answers
pub ends_as : (m : ℕ) (c : Column) → ended_on m (sound_entry c) ≡ record_in m (outcome c).reply (outcome c).bytes
unfolding ended_on sound_entry entry_asked ends_on_record record_in
ends_as m c = go (outcome c).reply
  where
    go : (reply : Reply) → cond (ends_on_record reply) (some (take m (outcome c).bytes)) none ≡ record_in m reply (outcome c).bytes
    go (Ended Nothing) = refl
    go (Ended Record) = refl
    go (Refused why) = refl

-- and has 32 record bytes
shown_length : (reply : Reply) (bytes : List ℕ) → length bytes ≡ 32 → length (shown reply bytes) ≡ 32
unfolding shown
shown_length (Ended Nothing) bytes e = refl
shown_length (Ended Record) bytes e = e
shown_length (Refused why) bytes e = refl

pub entry_bytes_lem : (c : Column) → length c.bytes ≡ 32 → length (sound_entry c).bytes ≡ 32
unfolding sound_entry entry_asked outcome
entry_bytes_lem c e = shown_length (reply_of c) c.bytes e

-- a column that ends keeps its vote
pub ended_vote : (o : Option (List ℕ)) (c : Column) → (ends_on o c).vote ≡ c.vote
unfolding ends_on
ended_vote none c = refl
ended_vote (some r) c = refl

-- and its ranges
pub ends_fits : (c : Column) → T (fits c) → (o : Option (List ℕ)) → ((r : List ℕ) (p : ℕ) → o ≡ some r → c.m ≤ p → p < 32 → get_or r p 0 ≡ 0) → T (fits (ends_on o c))
unfolding ends_on stage_fits
ends_fits c h none z = with_stage_lem c h (S.Ended Nothing) tt
ends_fits c h (some r) z = with_stage_lem (with_bytes r c) (with_bytes_lem c h r (bytes_fit c.m r (λ p. z r p refl))) (S.Ended Record) tt
