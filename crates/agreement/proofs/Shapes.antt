-- No call changes the lengths of a column's arrays.
use Rattle.std.specs.Prelude.{refl, Bool, true, false, cond, List, [], ◌∷◌, ℕ, ◌+◌, eqb, length}
use Rattle.block.specs.Block.{part}
use Rattle.protocols.specs.declared.Protocol.{Protocol}
use Rattle.protocols.specs.declared.Protocol.TheVariants.{Agreement}
use Rattle.protocols.specs.Protocols.{kind_in}
use Rattle.machine.specs.Machine.{Call, Speaks, Listens, Asks}
use Rattle.machine.specs.Lists.{Item, leading, extra, final}
use Rattle.agreement.specs.declared.Stage.TheVariants.{Speak, Listen}
use Rattle.agreement.specs.declared.Column.{Column}
use Rattle.agreement.specs.Column.{fresh_column}
use Rattle.agreement.specs.Parts.{with_stage}
use Rattle.agreement.specs.Rounds.{listens}
use Rattle.agreement.specs.Calls.{fresh, fresh_refusal, answered, no_column, round_of, speak, speak_refusal, listen, listen_refusal, outcome}
use Rattle.agreement.specs.Machine.{after, machine}
use Rattle.agreement.proofs.Heard.{Shaped, hears_shaped}

either : (b : Bool) (c d : Column) → Shaped c → Shaped d → Shaped (cond b c d)
either true c d s t = s
either false c d s t = t

made_shaped : (p : Protocol) (n m own : ℕ) (bytes : List ℕ) → Shaped (fresh_column p n m own bytes)
unfolding fresh_column part
made_shaped p n m own bytes = record { of_bytes = refl; of_agreements = refl; of_reports = refl; of_kept = refl }

pub fresh_shaped : (p : Protocol) (n m own : ℕ) (bytes : List ℕ) → Shaped (fresh p n m own bytes).column
unfolding fresh answered no_column
fresh_shaped p n m own bytes =
    either (eqb (fresh_refusal p n m own (length bytes)) 0) (fresh_column p n m own bytes) (fresh_column Agreement 0 0 0 []) (made_shaped p n m own bytes) (made_shaped Agreement 0 0 0 [])

pub after_shaped : (c : Column) (call : Call) → Shaped c → Shaped (after c call)
unfolding after speak listen outcome answered listens
after_shaped c (Speaks out) s = either (eqb (speak_refusal c (length out)) 0) (with_stage (Listen (round_of c.stage)) c) c s s
after_shaped c (Listens inbox) s =
    either (eqb (listen_refusal c (length inbox)) 0) (listens (round_of c.stage) c inbox) c
    (hears_shaped (kind_in c.protocol c.n (round_of c.stage)) (Speak (round_of c.stage + 1)) c inbox s) s
after_shaped c Asks s = s

pub final_shaped : (p : Protocol) (c : Column) (items : List (Item Call)) → Shaped c → Shaped (final (machine p) c items)
unfolding final
final_shaped p c [] s = s
final_shaped p c (leading call ∷ items) s = final_shaped p (after c call) items (after_shaped c call s)
final_shaped p c (extra call ∷ items) s = final_shaped p (after c call) items (after_shaped c call s)
