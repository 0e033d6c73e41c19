-- Where the lines of the unsound columns lie in a sheet: the loop over the columns carries the place along.
use Rattle.std.specs.Prelude.{◌≡◌, refl, List, ℕ, ◌+◌, ◌-◌, ◌*◌, ◌≤◌, eqb}
use Rattle.std.proofs.Common.{ap, ◌∙◌, mul-le-mul, arith, le-leb}
use Rattle.lists.specs.Lists.{bit, count}
use Rattle.lists.specs.Count.{count_more, count_le}
use Rattle.messages.specs.Messages.{word}
use Rattle.sheet.specs.Sheet.{columns, bytes, mark, sound, unsound, unsound_to, arrays, line_value}
use Rattle.sheet.specs.Laws.{arrays_le}
use Rattle.delivery.specs.declared.Letter.{Letter}
use Rattle.delivery.specs.declared.Round.{Round}

-- the place of the round's first value for column `to` + 1, from an unsound column before which there are u others
unfoldable pub place : List ℕ → Round → ℕ → ℕ → ℕ
place sheet round to u = arrays (columns sheet) (bytes sheet) + 2 * ((u * columns sheet + to) * round.line + round.offset)

pub place_first : (sheet : List ℕ) (round : Round) (to : ℕ) → place sheet round to (unsound_to sheet 0) ≡ arrays (columns sheet) (bytes sheet) + 2 * (to * round.line + round.offset)
unfolding place unsound_to count
place_first sheet round to =
    let none : 0 * columns sheet + to ≡ to = omega arith in
    rw none refl

-- each unsound column has n lines
pub place_next : (sheet : List ℕ) (round : Round) (to j : ℕ) → place sheet round to (unsound_to sheet j) + bit (eqb (mark sheet (j + 1)) 1) * (2 * (columns sheet * round.line)) ≡ place sheet round to (unsound_to sheet (j + 1))
unfolding place unsound_to unsound
place_next sheet round to j = rw count_more (omega arith)

pub place_le : (sheet : List ℕ) (round : Round) (to j : ℕ) → columns sheet ≤ 255 → bytes sheet ≤ 255 → round.line ≤ 65535 → round.offset ≤ 65535 → to ≤ 255 → j ≤ 255
    → place sheet round to (unsound_to sheet j) ≤ 17179869184
unfolding place unsound_to
place_le sheet round to j n m l o t h =
    let u = unsound_to sheet j in
    let lines : u * columns sheet ≤ 65025 = mul-le-mul {n₁ = u} {m₁ = columns sheet} {n₂ = 255} {m₂ = 255} (omega (arith, count_le (unsound sheet) j)) n in
    omega (arith, arrays_le (columns sheet) (bytes sheet) n m, mul-le-mul {n₁ = u * columns sheet + to} {m₁ = round.line} {n₂ = 65280} {m₂ = 65535} (omega (arith, lines)) l)

-- behind j columns of the sheet: where the values of the next unsound one for column `to` + 1 begin, and that no place is too far on
pub record Placed (sheet : List ℕ) (round : Round) (to j here : ℕ) : Type 0 where
  pub is : here ≡ place sheet round to (unsound_to sheet j)
  pub low : here ≤ 17179869184
  pub most : (i : ℕ) → i ≤ 255 → place sheet round to (unsound_to sheet i) ≤ 17179869184

pub placed : (sheet : List ℕ) (round : Round) (to j here : ℕ) → here ≡ place sheet round to (unsound_to sheet j) → ((i : ℕ) → i ≤ 255 → place sheet round to (unsound_to sheet i) ≤ 17179869184) → j ≤ 255
    → Placed sheet round to j here
placed sheet round to j here e most h = record { is = e; low = rw e (most j h); most = most }

-- one column on
pub placed_next : (sheet : List ℕ) (round : Round) (to j here n m step next : ℕ) → Placed sheet round to j here → n ≡ columns sheet → m ≡ mark sheet (j + 1)
    → step ≡ 2 * (n * round.line) → next ≡ here + bit (eqb m 1) * step → j + 1 ≤ 255 → Placed sheet round to (j + 1) next
placed_next sheet round to j here n m step next p all marked far e h =
    placed sheet round to (j + 1) next (e ∙ rw (far, all, marked, p.is) (place_next sheet round to j)) p.most h

-- a column of the wall is sound by its mark
pub sound_mark : (sheet : List ℕ) (i m : ℕ) → i ≤ columns sheet → m ≡ mark sheet i → eqb m 0 ≡ sound sheet i
unfolding sound
sound_mark sheet i m h marked = rw (le-leb i (columns sheet) h, marked) refl

-- a letter of the sheet: of how many columns, whether its sender is sound, and the place where its values lie if not
pub record Lying (sheet : List ℕ) (letter : Letter) : Type 0 where
  pub all : letter.n ≡ columns sheet
  pub honest : letter.sound ≡ sound sheet (letter.j + 1)
  pub here : Placed sheet letter.round letter.to letter.j letter.place

-- value k of the round stands 2 k bytes further on
pub place_value : (sheet : List ℕ) (round : Round) (to u k : ℕ) → word sheet (place sheet round to u + 2 * k) ≡ line_value round.line sheet u (to + 1) (round.offset + k)
unfolding place line_value
place_value sheet round to u k =
    let e : to + 1 - 1 ≡ to = omega arith in
    rw e (ap (word sheet) (omega arith))
