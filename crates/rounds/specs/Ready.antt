-- What is known behind the refusals: the slice has the length of the round's messages, by the round's kind; so the building blocks refuse
-- nothing either.
use Rattle.std.specs.Prelude.{◌≡◌, List, ℕ, ◌*◌, eqb, Result, Ok, Err}
use Rattle.std.specs.Result.{IsErrAnd}
use Rattle.std.proofs.Math.Path.{refl}
use Rattle.std.proofs.Common.{ap, ◌∙◌}
use borrow.Author.Tests.{ne_eqb}
use Rattle.sizes.specs.Sizes.{blocks, refusal}
use Rattle.sizes.proofs.Laws.{columns_of, first_column}
use Rattle.sizes.specs.declared.numbers.Refusal.{Refusal}
use Rattle.sizes.specs.Refusals.{number}
use Rattle.sizes.proofs.Refusals.{some, handed_on}
use Rattle.messages.specs.Messages.{to_all, to_all_refusal}
use Rattle.messages.proofs.Laws.{to_all_same, not_refused, accepted}
use Rattle.dispersal.specs.Dispersal.{exchange_refusal}
use Rattle.dissemination.specs.Dissemination.{spoken, round_refusal as points_refusal}
use Rattle.dissemination.specs.Laws.{silenced}
use Rattle.dissemination.proofs.Laws.{said_silenced}
use Rattle.agreement.specs.declared.Column.{Column}
use Rattle.protocols.specs.declared.Kind.{Kind}
use Rattle.protocols.specs.declared.Kind.TheVariants.{Exchange, Post}
use Rattle.protocols.specs.Protocols.{width}
use Rattle.agreement.specs.Answers.{answered_in}
use Rattle.agreement.specs.Rounds.{message}
use Rattle.agreement.specs.Calls.{answered, answer_of}
use Rattle.rounds.specs.Rounds.{to_columns, round_refusal}

-- BEHIND THE REFUSALS

-- a column that may speak or listen with a slice of `len` values in a round of the kind
pub record Ready (kind : Kind) (c : Column) (len : ℕ) : Type 0 where
  pub sizes : refusal c.n c.m c.own ≡ 0
  pub full : len ≡ c.n * width c.n c.m kind

pub ready : (kind : Kind) (c : Column) (len : ℕ) → round_refusal kind c len ≡ 0 → Ready kind c len
unfolding round_refusal
ready kind c len e =
    let a = accepted (refusal c.n c.m c.own) c.n (width c.n c.m kind) len e in
    record { sizes = a.0; full = a.1 }

-- what a call answers, refused or not
module _ (before : Column) {w : ℕ} where
  pub answered_refused : (why : Refusal) (r : Result Column Refusal) → IsErrAnd r (λ y. y ≡ why) → number why ≡ w → (done : Column) → answered_in r before ≡ answered w done before
  unfolding answered answer_of
  answered_refused why r h e done =
      let p : answered_in r before ≡ answered_in (Err why) before = ap (λ (q : Result Column Refusal). answered_in q before) (handed_on why r h) in
      p ∙ rw (← e, ne_eqb (number why) 0 (some why)) refl

  pub answered_done : 0 ≡ w → (d done : Column) → d ≡ done → answered_in (Ok d) before ≡ answered w done before
  unfolding answered answer_of
  answered_done e d done is = rw (← e, is) refl

module _ (c : Column) (len : ℕ) where
  pub exchange_accepted : Ready Exchange c len → exchange_refusal c.n c.m c.own len ≡ 0
  unfolding width
  exchange_accepted r = not_refused (refusal c.n c.m c.own) c.n (2 * blocks c.n c.m) len r.sizes r.full

  -- in a round of one value
  pub word_accepted : (kind : Kind) → width c.n c.m kind ≡ 1 → Ready kind c len → to_all_refusal c.n 1 len ≡ 0
  word_accepted kind e r =
      not_refused (refusal c.n 1 1) c.n 1 len (columns_of c.n c.m c.own r.sizes) (r.full ∙ ap (λ (w : ℕ). c.n * w) e)

  -- in the two rounds of dissemination, to listen and to speak
  pub points_heard : (kind : Kind) → width c.n c.m kind ≡ blocks c.n c.m → Ready kind c len → points_refusal c.n c.m c.own len ≡ 0
  points_heard kind e r =
      not_refused (refusal c.n c.m c.own) c.n (blocks c.n c.m) len r.sizes (r.full ∙ ap (λ (w : ℕ). c.n * w) e)

  pub points_said : (kind : Kind) → width c.n c.m kind ≡ blocks c.n c.m → Ready kind c len → points_refusal c.n c.m 1 len ≡ 0
  points_said kind e r =
      not_refused (refusal c.n c.m 1) c.n (blocks c.n c.m) len (first_column c.n c.m c.own r.sizes) (r.full ∙ ap (λ (w : ℕ). c.n * w) e)

  -- in the poster's round
  pub post_accepted : (s : ℕ) → Ready (Post s) c len → to_all_refusal c.n c.m len ≡ 0
  unfolding width
  post_accepted s r = not_refused (refusal c.n 1 1) c.n c.m len (columns_of c.n c.m c.own r.sizes) r.full

-- what is said there, in places enough
pub post_to_all : (s : ℕ) (c : Column) (mine : List ℕ) → mine ≡ silenced (eqb c.own s) c.bytes → to_all c.n c.m mine ≡ to_columns (Post s) c
unfolding to_all to_columns width message
post_to_all s c mine e =
    to_all_same c.n c.m mine (spoken (eqb c.own s) c.bytes) (λ k. rw e (said_silenced (eqb c.own s) c.bytes k))
