-- `of_input` meets its contract.
use Rattle.std.proofs.Common.{arith, take}
use Rattle.listing.proofs.Whole.{printed_is, prints}
use Rattle.listing.proofs.of_input.Goals as goal

pub returns : goal.returns
returns c =
    let a = c.args in
    let e = c.write_part-len.ensures in
    let is = printed_is a.protocol (take a.came a.room.now) _ _ e.0 e.1 in
    record { whole = is; every = prints a.protocol a.room.now a.came _ (omega arith) is }
