-- What a program prints is the listing of its whole input: the room for the text holds every listing, and what the room for the input leaves out
-- changes none.
use Rattle.std.specs.Prelude.{◌≡◌, List, ℕ, ◌≤◌, ◌<◌, min, length, take, drop, replicate}
use Rattle.std.proofs.Common.{sym, ap, subst, ◌∙◌, arith, ne_eqb}
use Rattle.std.proofs.Math.Nat.{min-eq_left}
use Rattle.std.proofs.Math.Seq.{take-append_seam}
use Rattle.protocols.specs.declared.Protocol.{Protocol}
use Rattle.sheet.specs.Sheet.{columns, bytes}
use Rattle.wall_run.specs.Run.{refusal, refused, settled}
use Rattle.wall_run.specs.Row.{accepted_run, by_refusal}
use Rattle.listing.specs.declared.Printed.{Printed}
use Rattle.listing.specs.Listing.{listing, listing_of, shown}
use Rattle.listing.specs.Writing.{length_shown, shown_room}
use Rattle.listing.specs.Laws.{refused_le, listing_fits}
use Rattle.listing.specs.Longest.{cut_alike}
use Rattle.listing.specs.Input.{Starts, most, printed_of}

-- the room for the text holds the listing of every sheet
pub whole_fits : (p : Protocol) (sheet : List ℕ) → length (listing_of p sheet) ≤ most
unfolding listing_of listing refused
whole_fits p sheet =
    by_refusal p sheet (columns sheet) (λ o. length (listing p (columns sheet) (bytes sheet) o) ≤ most)
    (λ e. let r = (accepted_run p sheet (columns sheet) e).0.arrays_there.range in omega (arith, listing_fits p (columns sheet) (bytes sheet) (settled p sheet) r.columns_high r.bytes_high))
    (λ h. rw (ne_eqb (refusal p sheet (columns sheet)) 0 h) (omega (arith, refused_le (refusal p sheet (columns sheet)))))

-- a text that a slice has room for stands whole at its front
front : (l s : List ℕ) → length l ≤ length s → take (min (length l) (length s)) (shown l s) ≡ l
front l s h = rw (shown_room l s h, min-eq_left h) (take-append_seam l (drop (length l) s))

pub printed_is : (p : Protocol) (sheet bytes : List ℕ) (len : ℕ) → len ≡ min (length (listing_of p sheet)) most → bytes ≡ shown (listing_of p sheet) (replicate most 0)
    → ◌≡◌ {A = Printed} (record { bytes = bytes; len = len }) (printed_of p sheet)
unfolding printed_of
printed_is p sheet bytes len n b = λ i. record { bytes = b i; len = n i }

-- the text ends within the room for it
pub printed_within : (p : Protocol) (sheet : List ℕ) (r : Printed) → r ≡ printed_of p sheet → r.len ≤ length r.bytes
unfolding printed_of
printed_within p sheet r is =
    subst (λ (z : Printed). z.len ≤ length z.bytes) (sym is) (rw (length_shown (listing_of p sheet) (replicate most 0)) (omega arith))

-- whatever input starts as what came into the room, its listing is what is printed
pub prints : (p : Protocol) (room : List ℕ) (came : ℕ) (r : Printed) → 42565 < length room → r ≡ printed_of p (take came room)
    → (input : List ℕ) → Starts room came input → take r.len r.bytes ≡ listing_of p input
unfolding printed_of
prints p room came r more is input starts =
    ap (λ (z : Printed). take z.len z.bytes) is
    ∙ front (listing_of p (take came room)) (replicate most 0) (whole_fits p (take came room))
    ∙ ap (listing_of p) (sym starts)
    ∙ cut_alike p (length room) more input
