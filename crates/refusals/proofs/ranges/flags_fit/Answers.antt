-- `ranges::flags_fit` meets its contract.
use Rattle.std.proofs.Common.{◌≡◌, ◌∙◌, refl, Bool, true, false, not, List, T, ltb, ◌&&◌, ℕ, zero, suc, ◌<◌, arith, le-ltb, lt→ltb, get_or}
use Rattle.lists.specs.Lists.{all}
use Rattle.lists.specs.Loops.{tested_from, tested_more, tested_done}
use Rattle.lists.specs.Tests.{and_both, or_left}
use Rattle.agreement.specs.Column.{flag_fits}
use Rattle.refusals.proofs.ranges.flags_fit.Goals as goal

swapped : (a b c d : Bool) → (a && b) && (c && d) ≡ (a && c) && (b && d)
swapped true true c d = refl
swapped true false true d = refl
swapped true false false d = refl
swapped false b c d = refl

-- two tests at each number are the two tests of all
all_both : (P Q : ℕ → Bool) (n : ℕ) → all (λ i. P i && Q i) n ≡ all P n && all Q n
unfolding all
all_both P Q zero = refl
all_both P Q (suc n) = rw (all_both P Q n) (swapped (all P n) (all Q n) (P n) (Q n))

-- below n a flag may be set
low_fits : (n : ℕ) (flags : List Bool) (i : ℕ) → i < n → T (flag_fits n flags i)
unfolding flag_fits
low_fits n flags i h = or_left (ltb i n) (not (get_or flags i false)) (lt→ltb i n h)

pub loop-i-init : goal.loop-i-init
loop-i-init c = let a = c.args in
    (tested_from _ _ _ c.requires (λ i l. and_both (flag_fits a.n a.agreements i) (flag_fits a.n a.reports i) (low_fits _ _ i l) (low_fits _ _ i l)), omega arith)

pub loop-i-preserved : goal.loop-i-preserved
unfolding flag_fits
loop-i-preserved c = let l = c.loop-i in
    (tested_more _ _ _ _ _ l.invariant.0 (omega arith) (simp (le-ltb l.i c.args.n l.invariant.1)), omega arith)

pub returns : goal.returns
returns c = tested_done _ _ _ _ c.loop-i.invariant.0 (omega arith) ∙ all_both _ _ 31
