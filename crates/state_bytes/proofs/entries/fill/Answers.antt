-- `entries::fill` meets its contract.
use Rattle.std.proofs.Common.{rules, ap, arith, ◌≡◌, refl, ℕ, length, [], ◌∷◌}
use Rattle.state_bytes.specs.Entry.{entry_numbers, entry_bytes}
use Rattle.state_bytes.specs.Writing.{fronted_first, fronted_more}
use Rattle.state_bytes.proofs.entries.fill.Goals as goal

pub returns : goal.returns
unfolding entry_bytes
returns c =
    let a = c.args in
    let e = a.entry in
    let whole : length e.bytes ≡ 32 = search rules in
    let front = ap (λ (f : ℕ). e.mark ∷ e.grade ∷ e.vote ∷ f ∷ []) c.from.ensures in
    let first = fronted_first _ _ _ _ entry_numbers front refl (omega arith) c.put.ensures.1 in
    (fronted_more _ _ _ _ _ _ entry_numbers 32 first refl whole (omega arith) c.put-2.ensures.1).holds
