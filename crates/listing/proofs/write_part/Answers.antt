-- `write_part` meets its contract.
use Rattle.std.proofs.Common.{sym, arith, length-take-le, take_all}
use Rattle.listing.proofs.write_part.Goals as goal

pub slice_bounds-write-end : goal.slice_bounds-write-end
slice_bounds-write-end c = sym (length-take-le _ _ (omega arith))

pub returns : goal.returns
returns c =
    let a = c.args in
    rw (take_all a.came a.room.now c.if-came-room.false) c.write-2.ensures
