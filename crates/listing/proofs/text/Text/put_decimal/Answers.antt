-- `text::Text::put_decimal` meets its contract.
use Rattle.std.proofs.Common.{[], ◌∷◌, ◌/◌, arith}
use Rattle.listing.specs.Writing.{puts_more}
use Rattle.listing.specs.Listing.{digit}
use Rattle.listing.specs.Laws.{decimal_one, decimal_two, decimal_three}
use Rattle.listing.proofs.text.Text.put_decimal.Goals.{then-v-ge100, else-v-ge100, then-v-ge10, else-v-ge10}
use Rattle.listing.proofs.text.Text.put_decimal.Goals as goal

pub returns : goal.returns
returns c =
    let v = c.args.v in
    elim c.if-v-ge100.branch [
      | then-v-ge100 a ↦ elim c.if-v-ge10.branch [
        | then-v-ge10 b ↦
            rw (decimal_three v a.if-v-ge100.true) (puts_more {v = digit (v / 100) ∷ []} {t' = c.if-v-ge100.self} (rw a.self-is a.put_digit.ensures)
            (puts_more {v = digit (v / 10) ∷ []} {t' = c.if-v-ge10.self} (rw b.self-is b.put_digit-then-v-ge10.ensures) c.put_digit-2.ensures))
        | else-v-ge10 b ↦ absurd (omega (arith, a.if-v-ge100.true, b.if-v-ge10.false))
      ]
      | else-v-ge100 a ↦ elim c.if-v-ge10.branch [
        | then-v-ge10 b ↦
            rw (decimal_two v b.if-v-ge10.true a.if-v-ge100.false) (puts_more {v = digit (v / 10) ∷ []} {t' = c.if-v-ge10.self} (rw b.self-is (rw a.self-is at b.put_digit-then-v-ge10.ensures)) c.put_digit-2.ensures)
        | else-v-ge10 b ↦ rw (decimal_one v b.if-v-ge10.false) (rw (b.self-is, a.self-is) at c.put_digit-2.ensures)
      ]
    ]
