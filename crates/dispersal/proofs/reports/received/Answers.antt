-- `reports::received` meets its contract.
use Rattle.std.proofs.Common.{◌≡◌, ◌∙◌, refl, false, List, eqb, ℕ, ◌≤◌, ◌<◌, arith, lt-ltb, le-ltb}
use Rattle.std.proofs.Math.ListN.{get_or-replicate}
use Rattle.lists.specs.Loops.{filled_none, filled_more, filled_rest}
use Rattle.messages.specs.Messages.{read_report, said, from}
use Rattle.messages.proofs.Laws.{from_place}
use Rattle.dispersal.specs.Dispersal.{report_at, reports}
use Rattle.dispersal.proofs.reports.received.Goals as goal

report_is : (n : ℕ) (values : List ℕ) (i : ℕ) → i < n → eqb (read_report (said values i)) 1 ≡ report_at n (from values) i
unfolding report_at
report_is n values i h = rw (lt-ltb i n h, from_place values i) refl

no_report : (n : ℕ) (values : List ℕ) (i : ℕ) → n ≤ i → false ≡ report_at n (from values) i
unfolding report_at
no_report n values i h = simp (le-ltb i n h)

pub loop-i-init : goal.loop-i-init
loop-i-init c = (filled_none _ _ _ (omega arith), omega arith)

pub loop-i-preserved : goal.loop-i-preserved
loop-i-preserved c = let l = c.loop-i in
    (filled_more _ _ _ _ _ _ l.invariant.0 (omega arith) (rw (c.read_report.ensures, c.value.ensures) (report_is _ _ l.i (omega arith))), omega arith)

pub returns : goal.returns
unfolding reports
returns c = filled_rest _ _ _ _ _ false c.loop-i.invariant.0 (omega arith) (λ j a b. get_or-replicate 31 j false false b ∙ no_report _ _ j (omega (arith, c.min-i-end.ensures)))
