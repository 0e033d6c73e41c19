-- `write` meets its contract.
use Rattle.std.proofs.Common.{◌≡◌, refl, rules}
use Rattle.wall_run.specs.Run.{outcomes_in}
use Rattle.listing.specs.Writing.{puts_done}
use Rattle.listing.specs.Listing.{listing, listing_of}
use Rattle.listing.proofs.write.Goals as goal

pub returns : goal.returns
unfolding listing_of
returns c =
    let a = c.args in
    let e : listing a.protocol c.columns-n.result c.bytes-m.result (outcomes_in c.columns-n.result c.outcomes_of-came.result) ≡ listing_of a.protocol a.sheet.now = rw (c.columns-n.ensures, c.bytes-m.ensures, c.outcomes_of-came.ensures, c.columns-n.ensures) refl in
    let same = c.put_listing.ensures.same in
    let done = puts_done refl c.put_listing.ensures in
    rw (← e) (done.0, search rules)
