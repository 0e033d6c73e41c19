-- `text::Text::put_sizes` meets its contract.
use Rattle.listing.specs.Writing.{puts_more}
use Rattle.listing.specs.Listing.{ascii, sizes_line}
use Rattle.listing.proofs.text.Text.put_sizes.Goals as goal

pub returns : goal.returns
unfolding sizes_line ascii
returns c =
    let two = puts_more c.put_named.ensures c.put_named-2.ensures in
    let three = puts_more two c.put_named-3.ensures in
    let four = puts_more three c.put_named-4.ensures in
    let five = puts_more four c.put_named-5.ensures in
    let six = puts_more five c.put_named-6.ensures in
    rw (← c.faults.ensures, ← c.degree.ensures, ← c.blocks-2.ensures, ← c.rounds_in.ensures)
    (puts_more six c.put.ensures)
