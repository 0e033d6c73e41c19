-- `text::Text::put_sound` meets its contract.
use Rattle.listing.specs.Writing.{puts_more}
use Rattle.listing.specs.Listing.{ascii, sound_line}
use Rattle.listing.proofs.text.Text.put_sound.Goals as goal

pub returns : goal.returns
unfolding sound_line ascii
returns c =
    let a = c.put_decimal.ensures in
    let b = puts_more a c.put_named.ensures in
    let d = puts_more b c.put_named-2.ensures in
    let e = puts_more d c.put.ensures in
    let f = puts_more e c.put_record.ensures in
    puts_more f c.put-2.ensures
