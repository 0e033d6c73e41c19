-- `start::start` meets its contract.
use Rattle.std.proofs.Common.{arith, ap₂, drop, replicate, ◌∙◌, List, ◌++◌}
use Rattle.lists.specs.Loops.{filled_none, filled_more, filled_part}
use Rattle.std.proofs.lemmas.List.{length-replicate}
use Rattle.wall_run.specs.Run.{made, start}
use Rattle.lists.specs.Lists.{list_of}
use Rattle.agreement.specs.declared.Column.{Column}
use Rattle.wall_run.proofs.start.start.Goals as goal

pub loop-i-init : goal.loop-i-init
loop-i-init c = filled_none _ _ _ (omega (arith, length-replicate 31 c.no_column-wall.result, c.columns-n.ensures, c.requires.range.columns_high))

pub loop-i-preserved : goal.loop-i-preserved
loop-i-preserved c = filled_more _ _ _ _ _ _ c.loop-i.invariant (omega arith) c.made.ensures

pub returns : goal.returns
unfolding start
returns c = filled_part _ _ _ _ _ c.loop-i.invariant (omega arith) ∙ ap₂ {C = List Column} (λ n none. list_of (made c.args.protocol c.args.sheet.now) n ++ drop n (replicate 31 none)) c.columns-n.ensures c.no_column-wall.ensures
