-- The loop over the rounds of a wall.
use Rattle.std.specs.Prelude.{◌≡◌, refl, List, ℕ, ◌+◌, ◌-◌, ◌*◌, ◌≤◌, ◌<◌, length}
use Rattle.std.proofs.Common.{ap, ◌∙◌, mul-le-mul, add-one, arith}
use Rattle.lists.specs.Lists.{sum}
use Rattle.lists.specs.Entries.{sum_more, sum_le}
use Rattle.protocols.specs.declared.Protocol.{Protocol}
use Rattle.sizes.specs.Laws.{InRange}
use Rattle.protocols.specs.Protocols.{rounds_in, values_in, line_in}
use Rattle.protocols.proofs.Laws.{values_by_kind, values_in_le, width_all_le}
use Rattle.agreement.specs.declared.Column.{Column}
use Rattle.sheet.specs.Sheet.{columns, bytes}
use Rattle.delivery.specs.declared.Round.{Round}
use Rattle.wall_run.specs.Run.{start, round_at, played, after, ended}

-- the values of a message, and what all columns say, have room
pub width_le : (p : Protocol) (n m r : ℕ) → m ≤ 32 → values_in p n m r ≤ 65
width_le p n m r h = omega (arith, values_in_le p n m r)

-- what one column says in a round
pub one_le : (p : Protocol) (n m round : ℕ) → InRange n m → n * values_in p n m round ≤ 992
one_le p n m round r = values_by_kind (λ w. n * w ≤ 992) p n m round (omega arith) (λ kind. width_all_le n m kind r)

pub mail_le : (n w : ℕ) → n ≤ 31 → n * w ≤ 992 → n * (n * w) ≤ 30752
mail_le n w h g = mul-le-mul {n₁ = n} {m₁ = n * w} {n₂ = 31} {m₂ = 992} h g

-- and as the loop asks for it
module _ (p : Protocol) (sheet : List ℕ) (n m w q : ℕ) (r : InRange (columns sheet) (bytes sheet)) (en : n ≡ columns sheet) (em : m ≡ bytes sheet) (ew : w ≡ values_in p n m q) where
  pub one_fits : columns sheet * w ≤ 992
  one_fits = rw (ew, en, em) (one_le p (columns sheet) (bytes sheet) q r)

  pub all_fit : (len : ℕ) → len ≡ n * (columns sheet * w) → (len ≡ columns sheet * (columns sheet * w)) × (len ≤ 30752)
  all_fit len e =
      let is : len ≡ columns sheet * (columns sheet * w) = e ∙ ap (λ (j : ℕ). j * (columns sheet * w)) en in
      (is, omega (arith, is, mail_le (columns sheet) w r.columns_high one_fits))

-- a round as the loop has it
round_is : (p : Protocol) (sheet : List ℕ) (q l o w : ℕ) → l ≡ line_in p (columns sheet) (bytes sheet) → o ≡ sum (values_in p (columns sheet) (bytes sheet)) q
    → w ≡ values_in p (columns sheet) (bytes sheet) (q + 1) → ◌≡◌ {A = Round} (record { line = l; offset = o; width = w }) (round_at p sheet (q + 1))
unfolding round_at
round_is p sheet q l o w el eo ew =
    let e : q + 1 - 1 ≡ q = omega arith in
    rw (el, eo, ew, e) refl

-- q of `last` rounds are over; `offset` values of each line belong to them
pub record Going (p : Protocol) (sheet : List ℕ) (last : ℕ) (mail : List ℕ) (wall : List Column) (offset q : ℕ) : Type 0 where
  pub within : q ≤ last
  pub few : last ≤ 101
  pub wall_is : wall ≡ after p sheet q
  pub offset_is : offset ≡ sum (values_in p (columns sheet) (bytes sheet)) q
  pub room : length mail ≡ 30752

pub going_none : (p : Protocol) (sheet : List ℕ) (last : ℕ) (mail : List ℕ) (wall : List Column) → last ≤ 101 → wall ≡ start p sheet → length mail ≡ 30752 → Going p sheet last mail wall 0 0
unfolding after sum
going_none p sheet last mail wall h e r = record { within = omega arith; few = h; wall_is = e; offset_is = refl; room = r }

pub going_more : {p : Protocol} {sheet : List ℕ} {last : ℕ} {mail mail' : List ℕ} {wall wall' : List Column} {offset q : ℕ} (l w : ℕ) → Going p sheet last mail wall offset q → q < last
    → length mail' ≡ length mail → l ≡ line_in p (columns sheet) (bytes sheet) → w ≡ values_in p (columns sheet) (bytes sheet) (q + 1)
    → wall' ≡ played sheet (record { line = l; offset = offset; width = w }) wall → Going p sheet last mail' wall' (offset + w) (q + 1)
unfolding after
going_more {p} {sheet} {last} {mail} {mail'} {wall} {wall'} {offset} {q} l w g h same el ew e =
    record {
      within = omega arith;
      few = g.few;
      wall_is =
          e ∙ ap (λ (round : Round). played sheet round wall) (round_is p sheet q l offset w el g.offset_is ew) ∙ ap (played sheet (round_at p sheet (q + 1))) g.wall_is
          ∙ rw add-one refl;
      offset_is = rw (sum_more, g.offset_is, ew) refl;
      room = same ∙ g.room;
    }

-- the values of earlier rounds are few
pub going_few : {p : Protocol} {sheet : List ℕ} {last : ℕ} {mail : List ℕ} {wall : List Column} {offset q : ℕ} → Going p sheet last mail wall offset q → bytes sheet ≤ 32 → offset ≤ 6565
going_few {p} {sheet} {last} {mail} {wall} {offset} {q} g h =
    omega (
      arith,
      g.offset_is,
      g.within,
      sum_le (values_in p (columns sheet) (bytes sheet)) 65 q (λ r. width_le p (columns sheet) (bytes sheet) r h),
      mul-le-mul {n₁ = q} {m₁ = 65} {n₂ = 101} {m₂ = 65} (omega (arith, g.within, g.few)) (omega arith),
    )

pub going_done : {p : Protocol} {sheet : List ℕ} {last : ℕ} {mail : List ℕ} {wall : List Column} {offset q : ℕ} → Going p sheet last mail wall offset q → last ≤ q → last ≡ rounds_in p (columns sheet)
    → wall ≡ ended p sheet
unfolding ended
going_done {p} {sheet} {last} {mail} {wall} {offset} {q} g h e = g.wall_is ∙ ap (after p sheet) (omega (arith, g.within))
