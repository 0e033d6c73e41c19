-- `entries::all` meets its contract.
use Rattle.std.proofs.Common.{◌∙◌, ap, ap₂, arith, ◌+◌, drop, replicate, List, ◌++◌}
use Rattle.std.proofs.lemmas.List.{length-replicate}
use Rattle.lists.specs.Loops.{filled_none, filled_more, filled_part}
use Rattle.wall_run.specs.Run.{entry_in, in_places, entry_of}
use Rattle.lists.specs.Lists.{list_of}
use Rattle.lists.specs.Entries.{get_d_within}
use Rattle.agreement.specs.Calls.{no_column}
use Rattle.agreement.specs.declared.Entry.{Entry}
use Rattle.wall_run.proofs.entries.all.Goals as goal

pub loop-i-init : goal.loop-i-init
loop-i-init c = filled_none _ _ _ (omega (arith, length-replicate 31 c.mark_only-entries.result, c.columns-n.ensures, c.requires))

pub loop-i-preserved : goal.loop-i-preserved
unfolding entry_in
loop-i-preserved c =
    let a = c.args in
    let i = c.loop-i.i in
    filled_more _ _ _ _ _ _ c.loop-i.invariant (omega arith) (c.entry.ensures ∙ ap (entry_of a.sheet.now (i + 1)) (get_d_within a.wall i _ no_column (omega (arith, c.columns-n.ensures, c.requires, c.well_formed.1.0.1.0.1))))

pub returns : goal.returns
unfolding in_places
returns c =
    let a = c.args in
    filled_part _ _ _ _ _ c.loop-i.invariant (omega arith) ∙ ap₂ {C = List Entry} (λ n none. list_of (entry_in a.sheet.now a.wall) n ++ drop n (replicate 31 none)) c.columns-n.ensures c.mark_only-entries.ensures
