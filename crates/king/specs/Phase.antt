-- One phase of the king rule, and all of them: what sound columns do in them, as statements.
use Rattle.std.specs.Prelude.{◌≡◌, Bool}
use Prim.Native.Nat.{ℕ, suc, ◌<◌}
use Rattle.messages.specs.Wall.{Sound}
use Rattle.king.specs.King.{proposal, settled, firm, word, crowned, phases}

-- What sound columns do in a phase, from the votes v to the votes v': `votes i j` is what i received from j, and so on. Of what unsound
-- columns send nothing is said.
pub record Phase (n : ℕ) (H : ℕ → Bool) (king : ℕ) (v v' : ℕ → ℕ) : Type 0 where
  pub votes : ℕ → ℕ → ℕ
  pub proposals : ℕ → ℕ → ℕ
  pub said : ℕ → ℕ
  pub between : ℕ → ℕ
  pub voted : (i j : ℕ) → Sound n H i → Sound n H j → votes i j ≡ v j
  pub proposed : (i j : ℕ) → Sound n H i → Sound n H j → proposals i j ≡ proposal n (votes j)
  pub settles : (i : ℕ) → Sound n H i → between i ≡ settled n (proposals i) (v i)
  pub spoken : (i : ℕ) → Sound n H i → Sound n H king → said i ≡ word king king (between king)
  pub crowns : (i : ℕ) → Sound n H i → v' i ≡ crowned (firm n (proposals i) (between i)) (between i) (said i)

-- the king of phase k is column k; votes p i: the vote of column i after p phases
abbrev pub EachPhase : (n : ℕ) → (ℕ → Bool) → (ℕ → ℕ → ℕ) → Type 0
EachPhase n H votes = (p : ℕ) → p < phases n → Phase n H (suc p) (votes p) (votes (suc p))
