-- `copy` meets its contract.
use Rattle.std.proofs.Common.{◌≡◌, ◌∙◌, ℕ, ◌+◌, ◌<◌, List, ◌++◌, length, take, drop, get_or, slice_set, ap, sym, arith}
use Rattle.lists.specs.Lists.{list_of}
use Rattle.lists.specs.Entries.{list_of_more}
use Rattle.lists.specs.Library.{list_of_take}
use Rattle.messages.proofs.copy.Goals as goal

one_more : {A : Type 0} (xs d : List A) (k : ℕ) (v : A) → k < length xs → k < length d → v ≡ get_or xs k v
    → slice_set (take k xs ++ drop k d) k v ≡ take (k + 1) xs ++ drop (k + 1) d
one_more {A = A} xs d k v h l e =
    let item : ℕ → A = λ i. get_or xs i v in
    rw (sym (list_of_take xs v k (omega arith)), sym (list_of_take xs v (k + 1) (omega arith)))
    (ap (λ (x : A). slice_set (list_of item k ++ drop k d) k x) e ∙ list_of_more item k d l)

pub loop-k-preserved : goal.loop-k-preserved
loop-k-preserved g c =
    rw c.loop-k.invariant (one_more c.args.from.now c.args.part.now c.loop-k.k c.index-from-k.result (omega arith) (omega (arith, c.requires)) c.index-from-k.is)
