-- `entries::put` meets its contract.
use Rattle.std.proofs.Common.{◌≡◌, ◌∙◌, sym, arith, rules, length}
use Rattle.messages.proofs.Laws.{put_fits, not_put}
use Rattle.state_bytes.specs.Entry.{entry_bytes}
use Rattle.state_bytes.proofs.Inverse.{entry_long}
use Rattle.state_bytes.proofs.entries.put.Goals as goal

pub returns-then-part-lt-SIZE : goal.returns-then-part-lt-SIZE
returns-then-part-lt-SIZE c =
    let e = c.args.entry in
    let whole : length e.bytes ≡ 32 = search rules in
    let long = entry_long e whole in
    (sym (not_put (entry_bytes e) _ (omega (arith, long, c.if-part-lt-SIZE.true))), long)

pub returns : goal.returns
returns c =
    let a = c.args in
    let whole : length a.entry.bytes ≡ 32 = search rules in
    let long = entry_long a.entry whole in
    (c.fill.ensures ∙ sym (rw long at (put_fits (entry_bytes a.entry) a.part.now (omega (arith, long, c.if-part-lt-SIZE.false)))), long)
