-- What a program prints of an input that it reads into a room: the definitions.
use Rattle.std.specs.Prelude.{◌≡◌, List, ℕ, min, length, take, replicate}
use Rattle.protocols.specs.declared.Protocol.{Protocol}
use Rattle.listing.specs.declared.Printed.{Printed}
use Rattle.listing.specs.Listing.{listing_of, shown}

-- `came` bytes of the input stand in the room: all of it, or where they fill the room its beginning
abbrev pub Starts : List ℕ → ℕ → List ℕ → Type 0
Starts room came input = take (length room) input ≡ take came room

-- the bytes that every listing has room in
abbrev pub most : ℕ
most = 3200

-- a listing in so many bytes, zeros behind it
unfoldable pub printed_of : Protocol → List ℕ → Printed
printed_of p sheet = record { bytes = shown (listing_of p sheet) (replicate most 0); len = min (length (listing_of p sheet)) most }
