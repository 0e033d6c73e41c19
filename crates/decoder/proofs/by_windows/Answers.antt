-- `by_windows` meets its contract.
use Rattle.std.proofs.Common.{arith}
use Rattle.decoder.proofs.Exactly.{sizes}
use Rattle.decoder.proofs.Answers.{met}
use Rattle.decoder.proofs.Windows.{missed_none, missed_more, missed_all}
use Rattle.decoder.proofs.by_windows.Goals as goal

pub overflow_add-end : goal.overflow_add-end
overflow_add-end c =
    let p = c.requires.0 in
    omega (arith, p.faults_is, (sizes _ _ p.accepts).faults_high)

pub loop-init : goal.loop-init
loop-init c = missed_none _ _

pub overflow_cast-a : goal.overflow_cast-a
overflow_cast-a c =
    let p = c.requires.0 in
    omega (arith, c.loop.invariant.near, p.faults_is, (sizes _ _ p.accepts).faults_high)

pub window-c-requires : goal.window-c-requires
window-c-requires c =
    let p = c.requires in
    (omega (arith, p.0.size_is), p.1, omega (arith, c.loop.invariant.near, p.0.faults_is, (sizes _ _ p.0.accepts).faults_high))

pub overflow_sub-n : goal.overflow_sub-n
overflow_sub-n c =
    let p = c.requires.0 in
    omega (arith, p.faults_is, (sizes _ _ p.accepts).faults_few)

pub hits-requires : goal.hits-requires
hits-requires c =
    let p = c.requires.0.accepts in
    (p.high, p.full)

pub returns-then-n-t : goal.returns-then-n-t
returns-then-n-t c =
    let p = c.requires.0 in
    met _ _ p.accepts _ _ _ p.size_is c.window-c.ensures (omega (arith, c.hits.ensures, p.faults_is))

pub overflow_add-a : goal.overflow_add-a
overflow_add-a c =
    let p = c.requires in
    omega (arith, c.loop.invariant.near, p.1, p.0.faults_is, (sizes _ _ p.0.accepts).faults_high)

pub loop-preserved : goal.loop-preserved
loop-preserved c =
    let p = c.requires in
    missed_more _ _ p.0.accepts _ _ c.loop.invariant _ _ (omega (arith, p.0.faults_is)) p.0.size_is p.1
    c.window-c.ensures
    (omega (arith, c.hits.ensures, p.0.faults_is))

pub returns : goal.returns
returns c =
    let p = c.requires.0 in
    missed_all _ _ p.accepts _ _ c.loop.invariant (omega (arith, p.faults_is))
