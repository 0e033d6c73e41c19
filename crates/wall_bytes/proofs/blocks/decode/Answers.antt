-- `blocks::decode` meets its contract.
use Rattle.std.proofs.Common.{rules, sym, ap, arith, length, ◌∙◌}
use Rattle.sizes.proofs.Refusals.{passed}
use Rattle.messages.proofs.Laws.{if_done, accepted, has_room, refused_behind}
use Rattle.decoder.specs.Decoder.{refusal_of}
use Rattle.column_bytes.proofs.Laws.{told_before, told_left}
use Rattle.wall_bytes.specs.Calls.{coefficients_of, block_answer, block_out}
use Rattle.wall_bytes.specs.Laws.{found_accepted, written_whole}
use Rattle.wall_bytes.proofs.blocks.decode.Goals as goal

pub returns-in_err-found : goal.returns-in_err-found
unfolding block_answer block_out refusal_of
returns-in_err-found c =
    let own = passed _ c.from_residual.result c.from_residual.ensures.1 (ap refusal_of c.in_err-found.ensures) in
    told_left _ _ _ (told_before _ 1 4 (length c.args.out.now) own)

pub returns-in_err-refusal : goal.returns-in_err-refusal
unfolding block_answer block_out
returns-in_err-refusal c =
    let done = sym (found_accepted _) ∙ ap refusal_of c.in_ok-found.ensures in
    let long = c.in_err-refusal.ensures ∙ sym (refused_behind _ 1 4 (length c.args.out.now) done) in
    told_left _ _ _ (passed _ c.from_residual-in_err-refusal.result c.from_residual-in_err-refusal.ensures.1 long)

pub returns : goal.returns
unfolding block_answer block_out
returns c =
    let a = c.args in
    let done = sym (found_accepted _) ∙ ap refusal_of c.in_ok-found.ensures in
    let e = c.in_ok-refusal.ensures ∙ sym (refused_behind _ 1 4 (length a.out.now) done) in
    let len = (accepted _ _ _ _ (sym c.in_ok-refusal.ensures)).1 in (
      c.write.ensures.0 ∙ has_room 4 (length a.out.now) (omega (arith, len)) ∙ e,
      c.write.ensures.1 ∙ written_whole 4 _ _ (search rules) len ∙ c.coefficients.ensures ∙ ap coefficients_of c.in_ok-found.ensures ∙ sym (if_done _ _ _ (sym e)),
    )
