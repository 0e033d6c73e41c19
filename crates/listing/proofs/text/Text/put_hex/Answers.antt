-- `text::Text::put_hex` meets its contract.
use Rattle.std.proofs.Common.{◌≡◌, ◌/◌}
use Rattle.listing.specs.Writing.{puts_more}
use Rattle.listing.specs.Listing.{hex_digit, hex}
use Rattle.listing.proofs.text.Text.put_hex.Goals as goal

pub returns : goal.returns
unfolding hex
returns c =
    let byte = c.args.byte in
    let high : c.hex_digit.result ≡ hex_digit (byte / 16) = c.hex_digit.ensures in
    let low : c.hex_digit-2.result ≡ hex_digit byte = c.hex_digit-2.ensures in
    rw (← high, ← low) (puts_more c.put_byte.ensures c.put_byte-2.ensures)
