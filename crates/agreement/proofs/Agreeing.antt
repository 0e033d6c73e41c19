-- The courses of an agreement: what its rounds leave as it was, and that they begin with dispersal and end with dissemination.
use Rattle.std.specs.Prelude.{◌≡◌, Bool, false, List, eqb}
use Rattle.std.proofs.Math.Path.{refl, ap}
use Rattle.std.proofs.Common.{sym, ◌∙◌, eq-or-lt_of_le, arith}
use Rattle.std.proofs.Math.Logic.{⊎_elim}
use Prim.Native.Nat.{ℕ, ◌+◌, ◌*◌, zero, suc, ◌≤◌, ◌<◌}
use Rattle.block.specs.Block.{part}
use Rattle.protocols.specs.declared.Protocol.{Protocol}
use Rattle.protocols.specs.declared.Protocol.TheVariants.{Agreement}
use Rattle.protocols.specs.Protocols.{kinds, rounds_in, kind_in, beside, posts}
use Rattle.king.specs.King.{phases}
use Rattle.agreement.specs.declared.Stage.TheVariants.{Speak}
use Rattle.agreement.specs.declared.Column.{Column}
use Rattle.agreement.specs.Column.{brought, fresh_column}
use Rattle.agreement.specs.Rounds.{vote_in, votes_one}
use Rattle.agreement.proofs.Heard.{regrades, kept_bytes, kept_grade}
use Rattle.agreement.proofs.ByKind.{past_three, keeps_on, rounds_of_lem, kind_points, kind_kept}
use Rattle.agreement.proofs.Course.{course, listening}
use Rattle.agreement.proofs.Courses.{Courses, state, is}
use Rattle.agreement.proofs.Dispersal.{Disperses}
use Rattle.agreement.proofs.Dissemination.{Disseminates}

-- the rounds before phase p + 1: three of dispersal and three of each phase
abbrev pub base : ℕ → ℕ
base p = suc (suc (suc (3 * p)))

-- THE ROUNDS

pub disperses : (n : ℕ) → Disperses Agreement n 0
unfolding kind_in kinds
disperses n = record { many = omega (arith, rounds_of_lem n); kind₁ = refl; kind₂ = refl; kind₃ = refl }

pub disseminates : (n : ℕ) → Disseminates Agreement n (base (phases n))
disseminates n =
    let q = base (phases n) in
    record { last = omega (arith, rounds_of_lem n); kind₁ = kind_points n (suc q) (omega arith); kind₂ = kind_kept n (suc (suc q)) (omega arith) }

-- WHAT STAYS

module _ (n m own : ℕ) (bytes : List ℕ) (inbox : ℕ → List ℕ) where
  abbrev at : ℕ → Column
  at q = course Agreement n m own bytes inbox q

  pub record_lasts : (q : ℕ) → q < rounds_in Agreement n → (at q).bytes ≡ part bytes 0 32
  unfolding course fresh_column brought posts beside
  record_lasts zero l = refl
  record_lasts (suc q) l =
      kept_bytes (kind_in Agreement n (suc q)) (Speak (suc q + 1)) (listening Agreement n m own bytes inbox q) (inbox (suc q)) (keeps_on n (suc q) (omega (arith, rounds_of_lem n))).1
      ∙ record_lasts q (omega arith)

  -- the grade with which it leaves dispersal is its grade ever after
  pub grade_lasts : (q : ℕ) → 3 ≤ q → (at q).grade ≡ (at 3).grade
  unfolding course regrades
  grade_lasts zero h = absurd (omega arith)
  grade_lasts (suc q) h =
      ⊎_elim (λ (e : 3 ≡ suc q). ap (λ (r : ℕ). (at r).grade) (sym e))
      (λ (l : 3 < suc q).
      kept_grade (kind_in Agreement n (suc q)) (Speak (suc q + 1)) (listening Agreement n m own bytes inbox q) (inbox (suc q)) (past_three (λ kind. regrades kind ≡ false) refl refl (λ k. refl) refl n (suc q) l (λ g. refl))
      ∙ grade_lasts q (omega arith))
      (eq-or-lt_of_le h)

-- the vote that a column of an agreement reads is its own
pub own_vote : {n m : ℕ} {H : ℕ → Bool} {held : ℕ → List ℕ} {inbox : ℕ → ℕ → List ℕ} (C : Courses Agreement n m H held inbox) (i q : ℕ)
    → votes_one (state C i q) ≡ eqb (state C i q).vote 1
unfolding votes_one vote_in posts
own_vote C i q = ap (λ (p : Protocol). eqb (vote_in p (state C i q).vote) 1) (is C i q).protocol_is
