-- The calls make the phases: where every sound column proposes, settles and is crowned by the calls' definitions, from what it hears, the
-- votes go through a `Phase`. So the theorem speaks of what the contracts cite.
use Rattle.std.specs.Prelude.{◌≡◌, Bool, List, [], ◌∷◌, ℕ}
use Rattle.std.proofs.Math.Path.{refl}
use Rattle.std.proofs.Common.{arith}
use Rattle.messages.specs.Messages.{from, said, to_all, heard, heard_of_all}
use Rattle.messages.specs.Wall.{Wall, Delivered}
use Rattle.messages.proofs.Delivery.{heard_message, heard_value}
use Rattle.king.specs.King.{proposal, settled, firm, word, crowned}
use Rattle.king.specs.Phase.{Phase}

-- the phase of a king, from the votes v; X, Y and Z are the slices that the columns listen to in its three rounds
module _ (n king : ℕ) (v : ℕ → ℕ) (X Y Z : ℕ → List ℕ) where
  abbrev pub votes_of : ℕ → ℕ → ℕ
  votes_of i = from (heard_of_all n i (v i ∷ []) 1 (X i) 0)

  abbrev pub proposal_of : ℕ → ℕ
  proposal_of i = proposal n (votes_of i)

  abbrev pub proposals_of : ℕ → ℕ → ℕ
  proposals_of i = from (heard_of_all n i (proposal_of i ∷ []) 1 (Y i) 0)

  abbrev pub settled_of : ℕ → ℕ
  settled_of i = settled n (proposals_of i) (v i)

  abbrev pub word_of : ℕ → ℕ
  word_of i = word king i (settled_of i)

  -- of the third round only the king's message is read
  abbrev pub king_said : ℕ → ℕ
  king_said i = heard i (word_of i ∷ []) 1 (Z i) king 0

  abbrev pub crowned_of : ℕ → ℕ
  crowned_of i = crowned (firm n (proposals_of i) (settled_of i)) (settled_of i) (king_said i)

  pub calls_phase : (H : ℕ → Bool) → Wall n H → Delivered n H 1 (λ j. to_all n 1 (v j ∷ [])) X → Delivered n H 1 (λ j. to_all n 1 (proposal_of j ∷ [])) Y
      → Delivered n H 1 (λ j. to_all n 1 (word_of j ∷ [])) Z → Phase n H king v crowned_of
  unfolding to_all said
  calls_phase H W dx dy dz =
      record {
        votes = votes_of;
        proposals = proposals_of;
        said = king_said;
        between = settled_of;
        voted = heard_value n H v X W dx;
        proposed = heard_value n H proposal_of Y W dy;
        settles = λ i si. refl;
        spoken = λ i si sk. heard_message n 1 H (λ j i. word_of j ∷ []) Z dz i king 0 si sk (omega arith);
        crowns = λ i si. refl;
      }

  -- between proposals and king the votes are those that the proposals settled
  pub calls_between : (H : ℕ → Bool) (W : Wall n H) (dx : Delivered n H 1 (λ j. to_all n 1 (v j ∷ [])) X) (dy : Delivered n H 1 (λ j. to_all n 1 (proposal_of j ∷ [])) Y)
      (dz : Delivered n H 1 (λ j. to_all n 1 (word_of j ∷ [])) Z) → (calls_phase H W dx dy dz).between ≡ settled_of
  unfolding calls_phase
  calls_between H W dx dy dz = refl
