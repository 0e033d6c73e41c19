-- Three rounds of the courses that are an exchange, first and second reports are a run of graded dispersal, so Theorem 3.3 speaks of the
-- columns' states.
use Rattle.std.specs.Prelude.{◌≡◌, Bool, List, [], ◌∷◌, ℕ, suc, ◌*◌, ◌<◌}
use Rattle.std.proofs.Common.{sym, ◌∙◌, arith}
use Rattle.std.proofs.Math.Path.{ap, subst, fun_ext}
use Rattle.protocols.specs.declared.Protocol.{Protocol}
use Rattle.sizes.specs.Sizes.{blocks}
use Rattle.messages.specs.Messages.{from, to_all, heard_of_all}
use Rattle.messages.specs.Wall.{Sound, Delivered}
use Rattle.codeword.specs.Codeword.{Held}
use Rattle.dispersal.specs.Dispersal.{exchange, exchanges, agrees, first_report, reports}
use Rattle.dispersal.specs.Run.{Graded}
use Rattle.dispersal.proofs.Graded.{grade_lt}
use Rattle.dispersal.proofs.Calls.{agreements_of, first_of, reports_of, second_of, leaves_with, calls_graded}
use Rattle.agreement.specs.declared.Column.{Column}
use Rattle.protocols.specs.declared.Kind.TheVariants.{Exchange, FirstReport, SecondReport}
use Rattle.protocols.specs.Protocols.{width, rounds_in, kind_in}
use Rattle.agreement.specs.Rounds.{message, received, graded, hears}
use Rattle.agreement.proofs.Courses.{Courses, state, is, next, sent, of}

-- q rounds are over, and three of dispersal follow
pub record Disperses (p : Protocol) (n q : ℕ) : Type 0 where
  pub many : suc (suc (suc q)) < rounds_in p n
  pub kind₁ : kind_in p n (suc q) ≡ Exchange
  pub kind₂ : kind_in p n (suc (suc q)) ≡ FirstReport
  pub kind₃ : kind_in p n (suc (suc (suc q))) ≡ SecondReport

module _ {p : Protocol} {n m : ℕ} {H : ℕ → Bool} {held : ℕ → List ℕ} {inbox : ℕ → ℕ → List ℕ} (C : Courses p n m H held inbox)
    (q : ℕ) (D : Disperses p n q) (places : ℕ → List ℕ) (holding : (i : ℕ) → (state C i q).bytes ≡ places i) where
  q₁ : ℕ
  q₁ = suc q

  q₂ : ℕ
  q₂ = suc (suc q)

  q₃ : ℕ
  q₃ = suc (suc (suc q))

  abbrev agreed : ℕ → List Bool
  agreed = agreements_of n m places (of C q₁) (of C q₂) (of C q₃)

  abbrev reported : ℕ → List Bool
  reported = reports_of n m places (of C q₁) (of C q₂) (of C q₃)

  agreements₁ : (i : ℕ) → (state C i q₁).agreements ≡ agreed i
  unfolding q₁ hears
  agreements₁ i =
      let a = is C i q in
      ap (λ (c : Column). c.agreements) (next C i q Exchange D.kind₁) ∙ rw (a.n_is, a.m_is, a.own_is, holding i)

  agreements₂ : (i : ℕ) → (state C i q₂).agreements ≡ agreed i
  unfolding q₁ q₂ hears
  agreements₂ i = ap (λ (c : Column). c.agreements) (next C i q₁ FirstReport D.kind₂) ∙ agreements₁ i

  reports₂ : (i : ℕ) → (state C i q₂).reports ≡ reported i
  unfolding q₁ q₂ hears received message
  reports₂ i =
      let a = is C i q₁ in
      let c = state C i q₁ in
      let e : reports c.n (from (heard_of_all c.n c.own (first_report c.n (agrees c.agreements) ∷ []) 1 (of C (suc q₁) i) 0)) ≡ reported i =
      rw (a.n_is, a.own_is, agreements₁ i) in
      ap (λ (c : Column). c.reports) (next C i q₁ FirstReport D.kind₂) ∙ e

  -- the grade with which a column leaves is the one that Protocol 3.2 gives
  grade₃ : (i : ℕ) → (state C i q₃).grade ≡ leaves_with n m places (of C q₁) (of C q₂) (of C q₃) i
  unfolding q₂ q₃ hears graded received message
  grade₃ i =
      let a = is C i q₂ in
      ap (λ (c : Column). c.grade) (next C i q₂ SecondReport D.kind₃) ∙ rw (a.n_is, a.own_is, agreements₂ i, reports₂ i)

  pub grade_small : (i : ℕ) → (state C i (suc (suc (suc q)))).grade < 3
  unfolding q₃
  grade_small i = rw (grade₃ i) (grade_lt n i _ _ _)

  sent₁ : Delivered n H (2 * blocks n m) (λ j. exchanges n m j (places j)) (of C q₁)
  unfolding q₁ message width exchanges
  sent₁ =
      sent C q Exchange (λ j i. exchange n m j (places j) i) (omega (arith, D.many)) D.kind₁ (λ j i sj.
      let a = is C j q in
      let c = state C j q in
      let e : exchange c.n c.m c.own c.bytes i ≡ exchange n m j (places j) i = rw (a.n_is, a.m_is, a.own_is, holding j) in
      e)

  sent₂ : Delivered n H 1 (λ j. to_all n 1 (first_of n m places (of C q₁) (of C q₂) (of C q₃) j ∷ [])) (of C q₂)
  unfolding q₁ q₂ message width to_all
  sent₂ =
      sent C q₁ FirstReport (λ j i. first_of n m places (of C q₁) (of C q₂) (of C q₃) j ∷ []) (omega (arith, D.many)) D.kind₂ (λ j i sj.
      let a = is C j q₁ in rw (a.n_is, agreements₁ j))

  sent₃ : Delivered n H 1 (λ j. to_all n 1 (second_of n m places (of C q₁) (of C q₂) (of C q₃) j ∷ [])) (of C q₃)
  unfolding q₂ q₃ message width to_all
  sent₃ =
      sent C q₂ SecondReport (λ j i. second_of n m places (of C q₁) (of C q₂) (of C q₃) j ∷ []) (omega (arith, D.many)) D.kind₃ (λ j i sj.
      let a = is C j q₂ in rw (a.n_is, a.own_is, agreements₂ j, reports₂ j))

  -- THEOREM 3.3, of the columns' states
  pub course_graded : ((i : ℕ) → Sound n H i → Held m (places i)) → Graded n H places (λ i. (state C i (suc (suc (suc q)))).grade)
  unfolding q₃
  course_graded records =
      subst (Graded n H places) (sym (fun_ext grade₃))
      (calls_graded n m places (of C q₁) (of C q₂) (of C q₃) H C.wall C.bytes_low C.bytes_high records sent₁ sent₂ sent₃)
