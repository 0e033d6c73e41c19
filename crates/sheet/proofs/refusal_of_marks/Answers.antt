-- `refusal_of_marks` meets its contract.
use Rattle.std.proofs.Common.{refl}
use Rattle.sheet.specs.Sheet.{refusal_of_marks}
use Rattle.sheet.proofs.refusal_of_marks.Goals as goal

pub returns : goal.returns
unfolding refusal_of_marks
returns c = rw (c.in_order.ensures, c.marks_fit.ensures, c.whole.ensures, c.bytes.ensures, c.faults.ensures, c.unsound_to-u.ensures, c.columns-n.ensures) refl
