-- What is refused of a delivery, and what is not: for the code, and for whoever delivers on an accepted sheet.
use Rattle.std.specs.Prelude.{◌≡◌, List, ℕ, ◌*◌, ◌≤◌}
use Rattle.std.proofs.Math.Path.{sym}
use Rattle.sizes.specs.Laws.{Accepted}
use Rattle.sizes.proofs.Laws.{accepted as accepted_sizes, not_refused as sizes_not_refused}
use Rattle.messages.proofs.Laws.{accepted, not_refused}
use Rattle.sheet.specs.Sheet.{columns, bytes}
use Rattle.delivery.specs.declared.Round.{Round}
use Rattle.delivery.specs.Delivery.{refusal}

module _ (sheet : List ℕ) (round : Round) (i len : ℕ) where
  -- not refused: the receiver is a column, and the inbox has the length of the round's messages
  pub receives : refusal sheet round i len ≡ 0 → (1 ≤ i) × (columns sheet * round.width ≡ len)
  unfolding refusal
  receives e =
      let a = accepted _ (columns sheet) round.width len e in
      ((accepted_sizes (columns sheet) (bytes sheet) i a.0).number_low, sym a.1)

  pub delivers : Accepted (columns sheet) (bytes sheet) i → len ≡ columns sheet * round.width → refusal sheet round i len ≡ 0
  unfolding refusal
  delivers a l = not_refused _ (columns sheet) round.width len (sizes_not_refused (columns sheet) (bytes sheet) i a) l
