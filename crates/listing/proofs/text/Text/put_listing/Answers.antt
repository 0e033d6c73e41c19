-- `text::Text::put_listing` meets its contract.
use Rattle.std.proofs.Common.{ne_eqb}
use Rattle.sizes.proofs.Refusals.{some}
use Rattle.wall_run.specs.Run.{refused}
use Rattle.listing.specs.Writing.{puts_more}
use Rattle.listing.specs.Listing.{listing}
use Rattle.listing.proofs.text.Text.put_listing.Goals as goal

pub returns-in-Ok : goal.returns-in-Ok
unfolding listing
returns-in-Ok c = rw c.in-Ok.is (puts_more c.put_sizes.ensures c.put_columns.ensures)

pub returns-in-Err : goal.returns-in-Err
unfolding listing refused
returns-in-Err c = rw (c.in-Err.is, ne_eqb _ _ (some c.in-Err.why)) c.put_refused.ensures
