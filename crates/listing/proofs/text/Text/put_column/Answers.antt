-- `text::Text::put_column` meets its contract.
use Rattle.std.proofs.Common.{eq-eqb, ne_eqb}
use Rattle.listing.specs.Listing.{column_line}
use Rattle.listing.proofs.text.Text.put_column.Goals as goal

pub returns-then-e-eq0 : goal.returns-then-e-eq0
unfolding column_line
returns-then-e-eq0 c = rw (eq-eqb c.args.e.mark 0 c.if-e-eq0.true) c.put_sound.ensures

pub returns-else-e-eq0 : goal.returns-else-e-eq0
unfolding column_line
returns-else-e-eq0 c = rw (ne_eqb c.args.e.mark 0 c.if-e-eq0.false) c.put_unsound.ensures
