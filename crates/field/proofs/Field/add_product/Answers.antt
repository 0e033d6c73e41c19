-- `Field::add_product` meets its contract: where b is small, c may be reduced before.
use Rattle.std.proofs.Common.{ap, arith, ◌%◌}
use Rattle.field.specs.Field.{element}
use Rattle.field.specs.Congruence.{scale, reduce}
use Rattle.field.proofs.Field.add_product.Goals as goal

pub returns-then-b-lt-SMALL : goal.returns-then-b-lt-SMALL
returns-then-b-lt-SMALL c = let a = c.args in ap element (omega (arith, scale a.b.0 (a.c.0 % 257) a.c.0 (reduce a.c.0)))
