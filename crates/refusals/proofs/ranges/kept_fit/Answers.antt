-- `ranges::kept_fit` meets its contract.
use Rattle.std.proofs.Common.{◌≡◌, ◌∙◌, sym, eqb→eq, true, List, ℕ, eqb, ltb, get_or}
use Rattle.lists.specs.Lists.{all}
use Rattle.lists.specs.Entries.{all_each, each_all}
use Rattle.lists.specs.Tests.{or_right, is_true, passes}
use Rattle.field.specs.Field.{blank}
use Rattle.messages.specs.Messages.{read_point, said}
use Rattle.agreement.specs.Column.{point_fits}
use Rattle.refusals.proofs.ranges.kept_fit.Goals as goal

-- blank may be kept of every block
blank_fits : (b : ℕ) (kept : List ℕ) → all (λ k. eqb (said kept k) blank) 32 ≡ true → all (point_fits b kept) 32 ≡ true
unfolding point_fits said read_point
blank_fits b kept e =
    is_true (all (point_fits b kept) 32)
    (each_all (point_fits b kept) 32 (λ k h.
    let v : get_or kept k blank ≡ blank = eqb→eq (get_or kept k blank) blank (all_each (λ k. eqb (said kept k) blank) 32 (passes (all (λ k. eqb (said kept k) blank) 32) e) k h) in
    rw v (or_right (ltb k b) true tt)))

pub returns-then-are_blank : goal.returns-then-are_blank
returns-then-are_blank c = c.if-are_blank.true ∙ sym (blank_fits _ _ (sym c.are_blank.ensures ∙ c.if-are_blank.true))
