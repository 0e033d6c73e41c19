-- THAT THE PREMISES CAN BE MET ON M, where M does what N does: a run of N in turn is one of M, each call handed what is required (`lifted`).
use Rattle.std.specs.Prelude.{◌≡◌, Bool, ℕ, T}
use Rattle.std.proofs.Math.Path.{refl, sym, ap, ap₂}
use Rattle.std.proofs.Common.{◌∙◌}
use mathlib.Core.List.{List, [], ◌∷◌}
use Rattle.lists.specs.Tests.{and_both}
use Rattle.protocols.specs.declared.Protocol.{Protocol}
use Rattle.protocols.specs.Protocols.{rounds_in}
use Rattle.messages.specs.Wall.{Sound}
use Rattle.machine.specs.Machine.{Call, Machine}
use Rattle.machine.specs.Lists.{Item, leading, leading_calls, turns, all_leading, in_turn, allowed, wrote, made, Run}
use Rattle.machine.specs.Simulates.{Simulates}
use Rattle.machine.proofs.Carried.{makes, moved, tracks}

-- calls that all lead, each as `lift` makes it
unfoldable pub all_lifted : {K : Type 0} → (Call → K) → List Call → List (Item K)
all_lifted lift [] = []
all_lifted lift (call ∷ calls) = leading (lift call) ∷ all_lifted lift calls

module _ {S K S' : Type 0} {p : Protocol} {M : Machine S K} {N : Machine S' Call} (Z : Simulates p M N)
    (lift : Call → K) (lifts : (call : Call) → (M.call (lift call) ≡ call) × T (M.required (lift call))) where
  lifted_calls : (calls : List Call) → leading_calls M.call (all_lifted lift calls) ≡ calls
  unfolding all_lifted leading_calls
  lifted_calls [] = refl
  lifted_calls (call ∷ calls) = ap₂ (λ (call : Call) (calls : List Call). call ∷ calls) (lifts call).0 (lifted_calls calls)

  lifted_allowed : (s : S) (calls : List Call) → T (allowed M s (all_lifted lift calls))
  unfolding all_lifted allowed
  lifted_allowed s [] = tt
  lifted_allowed s (call ∷ calls) = and_both (M.required (lift call)) (allowed M (M.after s (lift call)) (all_lifted lift calls)) (lifts call).1 (lifted_allowed (M.after s (lift call)) calls)

  module _ {n m : ℕ} {H : ℕ → Bool} {held : ℕ → List ℕ} {out inbox : ℕ → ℕ → List ℕ} (R : Run N p n m H held (in_turn p n out inbox) out inbox) where
    abbrev pub lists : ℕ → List (Item K)
    lists i = all_lifted lift (turns (out i) (inbox i) 1 (rounds_in p n))

    same_slices : (j : ℕ) → Sound n H j → wrote N (made N n m held j) (in_turn p n out inbox j) ≡ wrote M (made M n m held j) (lists j)
    unfolding made
    same_slices j sj =
        let calls = turns (out j) (inbox j) 1 (rounds_in p n) in
        let is = (Z.same_fresh n m j (held j) (makes N R j sj)).1 in
        sym ((tracks Z _ _ (lists j) is (lifted_allowed _ calls)).slices
        ∙ ap (λ (calls : List Call). wrote N (N.fresh n m j (held j)) (all_leading calls)) (lifted_calls calls))

    pub lifted : Run M p n m H held lists out inbox
    lifted = moved M R lists (λ i. lifted_calls _) (λ i. lifted_allowed (made M n m held i) _) same_slices
