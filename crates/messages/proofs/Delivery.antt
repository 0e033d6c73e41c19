-- What a sound column hears of a sound one is what that one sent it; its own place is what it would send itself.
use Rattle.std.specs.Prelude.{◌≡◌, refl, Bool, true, false, List, [], ◌∷◌, ℕ, ◌<◌, eqb}
use Rattle.std.proofs.Common.{sym, ap, subst, ◌∙◌, arith, eqb-true}
use Rattle.std.proofs.lemmas.Bool.{eqb-false}
use Rattle.lists.specs.Lists.{rows_of, in_row}
use Rattle.lists.specs.Rows.{in_row_rows_of}
use Rattle.field.specs.Field.{blank}
use Rattle.messages.specs.Messages.{said, from, to_all, heard, heard_of_all}
use Rattle.messages.proofs.Laws.{heard_own, heard_other, from_heard}
use Rattle.messages.specs.Wall.{Wall, Sound, Delivered}

-- `message j i` is what column j sends column i
pub heard_message : (n w : ℕ) (H : ℕ → Bool) (message : ℕ → ℕ → List ℕ) (inbox : ℕ → List ℕ) → Delivered n H w (λ j. rows_of (λ i. said (message j i)) w n) inbox
    → (i j k : ℕ) → Sound n H i → Sound n H j → k < w → heard i (message i i) w (inbox i) j k ≡ said (message j i) k
unfolding Delivered
heard_message n w H message inbox d i j k si sj l = go (eqb j i) refl
  where
    go : (b : Bool) → eqb j i ≡ b → heard i (message i i) w (inbox i) j k ≡ said (message j i) k
    go true e =
        let q = eqb-true j i e in
        heard_own i (message i i) w (inbox i) j k q ∙ ap (λ (x : ℕ). said (message x i) k) (sym q)
    go false e =
        heard_other i (message i i) w (inbox i) j k (eqb-false j i e) ∙ d i j k si sj (eqb-false j i e) l
        ∙ in_row_rows_of (λ i. said (message j i)) w n i k blank si.0 si.1 l

-- one value to all: of the values from all columns, a sound one's is what it sent
pub heard_value : (n : ℕ) (H : ℕ → Bool) (sent : ℕ → ℕ) (inbox : ℕ → List ℕ) → Wall n H → Delivered n H 1 (λ j. to_all n 1 (sent j ∷ [])) inbox
    → (i j : ℕ) → Sound n H i → Sound n H j → from (heard_of_all n i (sent i ∷ []) 1 (inbox i) 0) j ≡ sent j
unfolding to_all said
heard_value n H sent inbox W d i j si sj =
    from_heard i (sent i ∷ []) 1 (inbox i) n 0 j sj.0 sj.1 W.high ∙ heard_message n 1 H (λ j i. sent j ∷ []) inbox d i j 0 si sj (omega arith)

-- what was delivered, told otherwise
pub delivered_as : (n : ℕ) (H : ℕ → Bool) (w w' : ℕ) (out out' inbox : ℕ → List ℕ) → w ≡ w' → ((j : ℕ) → Sound n H j → out j ≡ out' j)
    → Delivered n H w out inbox → Delivered n H w' out' inbox
unfolding Delivered
delivered_as n H w w' out out' inbox e f d i j k si sj ne l =
    subst (λ (w : ℕ). k < w → in_row w (inbox i) j k blank ≡ in_row w (out' j) i k blank) e
    (λ l. d i j k si sj ne l ∙ ap (λ (s : List ℕ). in_row w s i k blank) (f j sj)) l
