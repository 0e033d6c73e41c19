-- `console::list` meets its contract.
use Rattle.std.proofs.Common.{sym, length-take-le}
use Rattle.listing.proofs.Whole.{printed_within}
use Rattle.listing.proofs.console.list.Goals as goal

pub slice_bounds-bytes-end : goal.slice_bounds-bytes-end
slice_bounds-bytes-end g c = printed_within _ _ c.of_input-len.result c.of_input-len.ensures.whole

pub slice_bounds-write_all-end : goal.slice_bounds-write_all-end
slice_bounds-write_all-end g c = sym (length-take-le _ _ (printed_within _ _ c.of_input-len.result c.of_input-len.ensures.whole))
