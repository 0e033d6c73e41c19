-- The king rounds of the courses are t + 1 phases of the king rule.
use Rattle.std.specs.Prelude.{◌≡◌, Bool, List, [], ◌∷◌}
use Rattle.std.proofs.Math.Path.{refl, ap, subst, fun_ext}
use Rattle.std.proofs.Common.{sym, ◌∙◌, arith}
use Prim.Native.Nat.{ℕ, suc, ◌≤◌, ◌<◌}
use Rattle.messages.specs.Messages.{to_all}
use Rattle.messages.specs.Wall.{Sound, Delivered}
use Rattle.protocols.specs.declared.Protocol.TheVariants.{Agreement}
use Rattle.king.specs.King.{phases, firm, word, crowned}
use Rattle.king.specs.Phase.{Phase}
use Rattle.king.proofs.Phase.{all_settle}
use Rattle.king.proofs.Calls as K
use Rattle.agreement.specs.declared.Column.{Column}
use Rattle.protocols.specs.declared.Kind.TheVariants.{Votes, Proposals, King}
use Rattle.protocols.specs.Protocols.{width, kinds, kind_in, posts}
use Rattle.agreement.specs.Column.{fresh_column}
use Rattle.agreement.specs.Rounds.{vote_after, message, received, king_said, first_vote, resettled, hears}
use Rattle.agreement.proofs.ByKind.{rounds_of_lem, kind_votes, kind_proposals, kind_king}
use Rattle.agreement.proofs.Course.{course, listening}
use Rattle.agreement.proofs.Courses.{Courses, state, is, next, sent, of}
use Rattle.agreement.proofs.Agreeing.{base}

module _ {n m : ℕ} {H : ℕ → Bool} {held : ℕ → List ℕ} {inbox : ℕ → ℕ → List ℕ} (C : Courses Agreement n m H held inbox) where
  -- the vote of column i after p phases
  abbrev pub votes : ℕ → ℕ → ℕ
  votes p i = (state C i (base p)).vote

  pub first_vote_lem : (i : ℕ) → votes 0 i ≡ first_vote (state C i 3).grade
  unfolding course kind_in kinds fresh_column vote_after hears posts
  first_vote_lem i = refl

  module _ (p : ℕ) (h : p < phases n) where
    r₁ : ℕ
    r₁ = suc (base p)

    r₂ : ℕ
    r₂ = suc (suc (base p))

    r₃ : ℕ
    r₃ = suc (suc (suc (base p)))

    is_votes : kind_in Agreement n r₁ ≡ Votes
    unfolding r₁
    is_votes = kind_votes n r₁ p h (omega arith)

    is_proposals : kind_in Agreement n r₂ ≡ Proposals
    unfolding r₂
    is_proposals = kind_proposals n r₂ p h (omega arith)

    is_king : kind_in Agreement n r₃ ≡ King (suc p)
    unfolding r₃
    is_king = kind_king n r₃ p h (omega arith)

    -- what Protocol and king rule give, from the votes before the phase
    abbrev proposed : ℕ → ℕ
    proposed = K.proposal_of n (suc p) (votes p) (of C r₁) (of C r₂) (of C r₃)

    abbrev settles : ℕ → ℕ
    settles = K.settled_of n (suc p) (votes p) (of C r₁) (of C r₂) (of C r₃)

    abbrev proposals : ℕ → ℕ → ℕ
    proposals = K.proposals_of n (suc p) (votes p) (of C r₁) (of C r₂) (of C r₃)

    abbrev crowns : ℕ → ℕ
    crowns = K.crowned_of n (suc p) (votes p) (of C r₁) (of C r₂) (of C r₃)

    proposal_is : (i : ℕ) → (state C i r₁).proposal ≡ proposed i
    unfolding r₁ hears received message
    proposal_is i =
        let a = is C i (base p) in
        ap (λ (c : Column). c.proposal) (next C i (base p) Votes is_votes) ∙ rw (a.n_is, a.own_is)

    vote_kept : (i : ℕ) → (state C i r₁).vote ≡ votes p i
    unfolding r₁ hears
    vote_kept i = ap (λ (c : Column). c.vote) (next C i (base p) Votes is_votes)

    -- the proposals that column i hears
    heard_is : (i : ℕ) → received Proposals (listening Agreement n m i (held i) (inbox i) r₁) (of C r₂ i) ≡ proposals i
    unfolding r₁ received message
    heard_is i =
        let a = is C i r₁ in rw (a.n_is, a.own_is, proposal_is i)

    settled_is : (i : ℕ) → (state C i r₂).vote ≡ settles i
    unfolding r₁ r₂ hears resettled
    settled_is i =
        let a = is C i r₁ in
        ap (λ (c : Column). c.vote) (next C i r₁ Proposals is_proposals) ∙ rw (heard_is i, a.n_is, vote_kept i)

    firm_is : (i : ℕ) → (state C i r₂).firm ≡ firm n (proposals i) (settles i)
    unfolding r₁ r₂ hears resettled
    firm_is i =
        let a = is C i r₁ in
        ap (λ (c : Column). c.firm) (next C i r₁ Proposals is_proposals) ∙ rw (heard_is i, a.n_is, vote_kept i)

    -- and the king's word
    word_is : (i : ℕ) → king_said (suc p) (listening Agreement n m i (held i) (inbox i) r₂) (of C r₃ i) ≡ K.king_said n (suc p) (votes p) (of C r₁) (of C r₂) (of C r₃) i
    unfolding r₂ king_said message
    word_is i =
        let a = is C i r₂ in rw (settled_is i, a.own_is)

    crowned_is : (i : ℕ) → (state C i r₃).vote ≡ crowns i
    unfolding r₂ r₃ hears
    crowned_is i =
        ap (λ (c : Column). c.vote) (next C i r₂ (King (suc p)) is_king) ∙ ap (crowned (state C i r₂).firm (state C i r₂).vote) (word_is i)
        ∙ rw (firm_is i, settled_is i)

    votes_sent : Delivered n H 1 (λ j. to_all n 1 (votes p j ∷ [])) (of C r₁)
    unfolding r₁ message width to_all
    votes_sent = sent C (base p) Votes (λ j i. votes p j ∷ []) (omega (arith, rounds_of_lem n)) is_votes (λ j i sj. refl)

    proposals_sent : Delivered n H 1 (λ j. to_all n 1 (proposed j ∷ [])) (of C r₂)
    unfolding r₁ r₂ message width to_all
    proposals_sent =
        sent C r₁ Proposals (λ j i. proposed j ∷ []) (omega (arith, rounds_of_lem n)) is_proposals
        (λ j i sj. ap (λ (v : ℕ). v ∷ []) (proposal_is j))

    word_sent : Delivered n H 1 (λ j. to_all n 1 (word (suc p) j (settles j) ∷ [])) (of C r₃)
    unfolding r₂ r₃ message width to_all
    word_sent =
        sent C r₂ (King (suc p)) (λ j i. word (suc p) j (settles j) ∷ []) (omega (arith, rounds_of_lem n)) is_king
        (λ j i sj. rw ((is C j r₂).own_is, settled_is j))

    -- a phase of the king rule, of the columns' votes
    calls_phase : Phase n H (suc p) (votes p) crowns
    calls_phase = K.calls_phase n (suc p) (votes p) (of C r₁) (of C r₂) (of C r₃) H C.wall votes_sent proposals_sent word_sent

    course_phase : Phase n H (suc p) (votes p) (λ i. (state C i r₃).vote)
    course_phase = subst (Phase n H (suc p) (votes p)) (sym (fun_ext crowned_is)) calls_phase

    -- where the votes before it are one, they are so in its rounds too: after the votes, and between proposals and king
    pub in_phase : (b : ℕ) → b ≤ 1 → ((i : ℕ) → Sound n H i → votes p i ≡ b) → (i : ℕ) → Sound n H i → ((state C i (suc (base p))).vote ≡ b) × ((state C i (suc (suc (base p)))).vote ≡ b)
    unfolding r₁ r₂ calls_phase
    in_phase b hb common i si = (
      vote_kept i ∙ common i si,
      settled_is i ∙ ap (λ (f : ℕ → ℕ). f i) (sym (K.calls_between n (suc p) (votes p) (of C r₁) (of C r₂) (of C r₃) H C.wall votes_sent proposals_sent word_sent)) ∙ all_settle C.wall calls_phase b hb common i si,
    )

  later : (p : ℕ) → base (suc p) ≡ suc (suc (suc (base p)))
  later p = omega arith

  pub phase : (p : ℕ) → p < phases n → Phase n H (suc p) (votes p) (votes (suc p))
  unfolding r₃
  phase p h = subst (λ (q : ℕ). Phase n H (suc p) (votes p) (λ i. (state C i q).vote)) (sym (later p)) (course_phase p h)
