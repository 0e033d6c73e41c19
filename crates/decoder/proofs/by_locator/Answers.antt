-- `by_locator` meets its contract.
use Rattle.std.proofs.Common.{ap, arith, ℕ, ◌-◌, ◌*◌}
use Rattle.decoder.proofs.Exactly.{sizes}
use Rattle.decoder.proofs.Answers.{met, none_left, code_locates}
use Rattle.decoder.proofs.by_locator.Goals as goal

pub candidate-quick-requires : goal.candidate-quick-requires
candidate-quick-requires c =
    let p = c.requires in
    omega (arith, p.size_is, (sizes _ _ p.accepts).degree_high)

pub overflow_sub-n : goal.overflow_sub-n
overflow_sub-n c =
    let p = c.requires in
    omega (arith, p.faults_is, (sizes _ _ p.accepts).faults_few)

pub hits-requires : goal.hits-requires
hits-requires c =
    let p = c.requires.accepts in
    (p.high, p.full)

pub returns-then-n-t : goal.returns-then-n-t
returns-then-n-t c =
    let p = c.requires in
    met _ _ p.accepts _ _ _ p.size_is c.candidate-quick.ensures.goes (omega (arith, c.hits.ensures, p.faults_is))

pub overflow_sub-n-2 : goal.overflow_sub-n-2
overflow_sub-n-2 c =
    let p = c.requires in
    omega (arith, p.faults_is, (sizes _ _ p.accepts).faults_few)

pub overflow_sub-n-3 : goal.overflow_sub-n-3
overflow_sub-n-3 c =
    let p = c.requires in
    omega (arith, p.faults_is, (sizes _ _ p.accepts).faults_few)

pub candidate-last-requires : goal.candidate-last-requires
candidate-last-requires c =
    let p = c.requires in
    omega (arith, p.size_is, (sizes _ _ p.accepts).degree_high)

pub hits-requires-2 : goal.hits-requires-2
hits-requires-2 c =
    let p = c.requires.accepts in
    (p.high, p.full)

pub returns-then-n-t-2 : goal.returns-then-n-t-2
returns-then-n-t-2 c =
    let p = c.requires in
    met _ _ p.accepts _ _ _ p.size_is c.candidate-last.ensures.goes (omega (arith, c.hits-2.ensures, p.faults_is))

pub returns : goal.returns
returns c =
    let p = c.requires in
    none_left _ _ p.accepts _ _ _ p.size_is
    (code_locates _ _ p.accepts _ _ (ap (λ (z : ℕ). c.args.n - 2 * z - 1) p.faults_is) c.locate-es.ensures)
    c.candidate-last.ensures
    (omega (arith, c.hits-2.ensures, p.faults_is))
