-- `listening::listen_all` meets its contract.
use Rattle.std.proofs.Common.{ap, arith, ◌∙◌, ℕ, ◌+◌, ◌<◌}
use Rattle.std.proofs.lemmas.List.{length-replicate}
use Rattle.std.proofs.Math.Seq.{length_front}
use Rattle.lists.specs.Entries.{get_d_within}
use Rattle.lists.specs.Loops.{filled_none, filled_more, filled_read, filled_part}
use Rattle.agreement.specs.Calls.{no_column}
use Rattle.sheet.specs.Sheet.{columns}
use Rattle.wall_run.specs.Run.{turned, each, heard}
use Rattle.wall_run.proofs.listening.listen_all.Goals as goal

pub loop-i-init : goal.loop-i-init
loop-i-init c = (filled_none _ _ _ (omega (arith, c.requires.0.columns_high, c.well_formed.1.1.1.0.1.0.1)), length-replicate {A = ℕ} 992 65535)

pub loop-i-preserved : goal.loop-i-preserved
unfolding turned
loop-i-preserved c =
    let a = c.args in
    let i = c.loop-i.i in
    let inside : i < columns a.sheet.now = omega (arith, c.columns-n.ensures) in
    let so_far = c.loop-i.invariant.0 in
    let read = get_d_within c.loop-i.wall i _ no_column (omega (arith, so_far.same, so_far.size)) ∙ filled_read _ _ _ _ i no_column so_far in
    (filled_more _ _ _ _ _ _ so_far inside (c.hear.ensures ∙ ap (heard a.sheet.now a.round a.mail.now (i + 1)) read), length_front c.loop-i.inbox c.hear.new.inbox c.of_one-len.result c.hear.auto.inbox ∙ c.loop-i.invariant.1)

pub returns : goal.returns
unfolding each
returns c = filled_part _ _ _ _ _ c.loop-i.invariant.0 (omega (arith, c.columns-n.ensures))
