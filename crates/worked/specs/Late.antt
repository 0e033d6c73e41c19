-- A WALL THAT SETTLES AS LATE AS IT CAN, in which the king of the first phase lies: the premises of `settles` are met, the first sound king is column t + 1
-- (`as_late`), and before its phase the votes of the sound columns differ (`apart`).
use Rattle.std.specs.Prelude.{◌≡◌, refl, List, ℕ, zero, suc, ◌<◌, ◌≤◌, T, ltb, length, get_or}
use Rattle.std.proofs.Common.{sym, ap, ◌∙◌, arith, ltb→lt}
use Rattle.std.proofs.Math.Decide.{dec_lt}
use Rattle.std.proofs.Math.ListN.{get_or-eq_default}
use Rattle.lists.specs.Lists.{Below, all}
use Rattle.lists.specs.Entries.{all_each}
use Rattle.sizes.specs.Sizes.{faults}
use Rattle.protocols.specs.declared.Protocol.TheVariants.{Agreement}
use Rattle.protocols.specs.Protocols.{rounds_in}
use Rattle.protocols.proofs.Laws.{rounds_in_some}
use Rattle.messages.specs.Wall.{Sound}
use Rattle.machine.specs.Lists.{after_leading, made}
use Rattle.machine.specs.Settled.{Settled}
use Rattle.agreement.specs.declared.Column.{Column}
use Rattle.agreement.specs.Machine.{machine}
use Rattle.agreement.proofs.Settling.{settles}
use Rattle.sheet.specs.Sheet.{columns, bytes, mark, sound, record_of}
use Rattle.wall_run.specs.Run.{column_at, after}
use Rattle.wall_run.specs.Row.{accepted_run}
use Rattle.wall_run.specs.Played.{calls, run, made_is, walked, state_is}
use Rattle.worked.specs.Walls.{lying_king}
use Rattle.worked.specs.Worked.{worked}

-- bytes are below 256, computed at each place
below_each : (b : ℕ) (l : List ℕ) → 0 < b → T (all (λ i. ltb (get_or l i 0) b) (length l)) → Below b l
below_each b l p t i = go (dec_lt i (length l))
  where
    go : Dec (i < length l) → get_or l i 0 < b
    go (yes h) = ltb→lt (get_or l i 0) b (all_each (λ i. ltb (get_or l i 0) b) (length l) t i h)
    go (no h) = rw (get_or-eq_default l 0 {n = i} (omega arith)) p

small : Below 256 lying_king
unfolding all
small = below_each 256 lying_king (omega arith) tt

-- THE RUN, and the theorem of it: its lists are in turn
pub settled : Settled (machine Agreement) (λ c. c.vote) (columns lying_king) (bytes lying_king) (sound lying_king) (record_of lying_king) (calls Agreement lying_king)
settled =
    let a = accepted_run Agreement lying_king 4 worked.king_lies in
    settles _ _ _ _ _ _ _ (run Agreement lying_king small a.0 a.1)

-- columns 2, 3 and 4 are sound, and column 1 is not
sound_from_2 : (i : ℕ) → 2 ≤ i → i ≤ 4 → Sound (columns lying_king) (sound lying_king) i
unfolding columns sound mark
sound_from_2 zero l u = absurd (omega arith)
sound_from_2 (suc zero) l u = absurd (omega arith)
sound_from_2 (suc (suc zero)) l u = (omega arith, omega arith, tt)
sound_from_2 (suc (suc (suc zero))) l u = (omega arith, omega arith, tt)
sound_from_2 (suc (suc (suc (suc zero)))) l u = (omega arith, omega arith, tt)
sound_from_2 (suc (suc (suc (suc (suc i))))) l u = absurd (omega arith)

-- so the first sound king is the last of all
pub as_late : settled.king ≡ suc (faults (columns lying_king))
unfolding columns sound mark faults
as_late = go settled.king settled.sound (settled.lowest 2 (sound_from_2 2 (omega arith) (omega arith)))
  where
    go : (k : ℕ) → Sound (columns lying_king) (sound lying_king) k → k ≤ 2 → k ≡ 2
    go zero s h = absurd (omega (arith, s.0))
    go (suc zero) s h = absurd s.2
    go (suc (suc zero)) s h = refl
    go (suc (suc (suc k))) s h = absurd (omega arith)

-- THE VOTES after phase 1, which is after twelve leading calls
abbrev pub voted : ℕ → ℕ
voted i = (after_leading (machine Agreement) 12 (made (machine Agreement) (columns lying_king) (bytes lying_king) (record_of lying_king) i) (calls Agreement lying_king i)).vote

voted_is : (i : ℕ) → 2 ≤ i → i ≤ 4 → voted i ≡ (column_at (after Agreement lying_king 6) i).vote
voted_is i l u =
    let a = accepted_run Agreement lying_king 4 worked.king_lies in
    let si = sound_from_2 i l u in
    let six : 6 ≤ rounds_in Agreement (columns lying_king) = rounds_in_some Agreement (columns lying_king) in
    ap (λ (c : Column). (after_leading (machine Agreement) 12 c (calls Agreement lying_king i)).vote) (made_is Agreement lying_king small a.0 a.1 i si)
    ∙ ap (λ (c : Column). c.vote) ((walked Agreement lying_king small a.0 a.1 i si).led 12 6 refl six ∙ sym (state_is Agreement lying_king small a.0 a.1 i si 6 six))

pub apart : (voted 2 ≡ 1) × (voted 4 ≡ 0)
apart = (voted_is 2 (omega arith) (omega arith) ∙ worked.votes_differ.0, voted_is 4 (omega arith) (omega arith) ∙ worked.votes_differ.2)
