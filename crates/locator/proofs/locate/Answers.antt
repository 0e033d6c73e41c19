-- `locate` meets its contract: after j turns the two arrays and the weights are the run after j places.
use Rattle.std.proofs.Common.{sym, arith, le-leb, ◌∙◌}
use Rattle.std.proofs.lemmas.Bool.{lt-leb}
use Rattle.locator.specs.Held.{running_none, running_more, running_held, running_done}
use Rattle.locator.proofs.locate.Goals as goal

pub loop-j-init : goal.loop-j-init
loop-j-init c = running_none _ _ _ _ c.start_first.ensures c.start_second.ensures

pub turn-requires : goal.turn-requires
turn-requires c =
    let l = c.loop-j in
    let h = running_held _ _ _ _ _ l.invariant in
    (omega arith, omega (arith, h.first_light), omega (arith, h.second_light))

pub loop-j-preserved : goal.loop-j-preserved
loop-j-preserved c = running_more _ _ _ _ _ c.loop-j.invariant _ _ _ (omega arith) c.value.ensures c.turn.ensures

pub returns-then-first-second : goal.returns-then-first-second
returns-then-first-second c =
    let l = c.loop-j in
    sym (running_done _ _ _ _ _ l.invariant (omega arith) ∙ simp (le-leb l.first.weight l.second.weight (omega (arith, c.if-first-second.true))))

pub returns : goal.returns
returns c =
    let l = c.loop-j in
    sym (running_done _ _ _ _ _ l.invariant (omega arith) ∙ simp (lt-leb l.first.weight l.second.weight (omega (arith, c.if-first-second.false))))
