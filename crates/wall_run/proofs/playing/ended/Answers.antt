-- `playing::ended` meets its contract.
use Rattle.std.proofs.Common.{◌∙◌, sym, ap, ap₂, arith, length-take-le, ℕ, ◌+◌, ◌≤◌}
use Rattle.std.proofs.lemmas.List.{length-replicate}
use Rattle.std.proofs.Math.Seq.{length_front}
use Rattle.wall_run.specs.Rounds.{width_le, one_fits, all_fit, going_none, going_more, going_few, going_done}
use Rattle.protocols.specs.Protocols.{rounds_in, values_in, line_in}
use Rattle.protocols.proofs.Laws.{rounds_in_le, line_in_le}
use Rattle.wall_run.proofs.playing.ended.Goals as goal

pub overflow_cast-last : goal.overflow_cast-last
overflow_cast-last c = omega (arith, c.rounds_in-last.ensures, rounds_in_le c.args.protocol c.columns-n.result, c.columns-n.ensures, c.requires.range.columns_high)

pub overflow_cast-line : goal.overflow_cast-line
overflow_cast-line c = omega (arith, c.line_in-line.ensures, line_in_le c.args.protocol c.columns-n.result c.bytes-m.result)

pub loop-q-init : goal.loop-q-init
loop-q-init c = going_none _ _ _ _ _ (omega (arith, c.rounds_in-last.ensures, rounds_in_le c.args.protocol c.columns-n.result, c.columns-n.ensures, c.requires.range.columns_high)) c.start-wall.ensures (length-replicate {A = ℕ} 30752 65535)

pub of_many-len-requires : goal.of_many-len-requires
of_many-len-requires c = (c.requires.range.columns_high, one_fits _ _ _ _ _ _ c.requires.range c.columns-n.ensures c.bytes-m.ensures c.values_in-width.ensures)

pub slice_bounds-mail-end : goal.slice_bounds-mail-end
slice_bounds-mail-end c = omega (arith, c.loop-q.invariant.room, (all_fit _ _ _ _ _ _ c.requires.range c.columns-n.ensures c.bytes-m.ensures c.values_in-width.ensures _ c.of_many-len.ensures).1)

pub slice_bounds-played-end : goal.slice_bounds-played-end
slice_bounds-played-end c =
    sym (length-take-le _ _ (omega (arith, c.loop-q.invariant.room, (all_fit _ _ _ _ _ _ c.requires.range c.columns-n.ensures c.bytes-m.ensures c.values_in-width.ensures _ c.of_many-len.ensures).1)))

pub played-next-requires : goal.played-next-requires
played-next-requires c =
    let r = c.requires.range in
    let all = all_fit _ _ _ _ _ _ r c.columns-n.ensures c.bytes-m.ensures c.values_in-width.ensures _ c.of_many-len.ensures in (
      r,
      one_fits _ _ _ _ _ _ r c.columns-n.ensures c.bytes-m.ensures c.values_in-width.ensures,
      length-take-le _ _ (omega (arith, c.loop-q.invariant.room, all.1)) ∙ all.0,
    )

pub overflow_add-offset : goal.overflow_add-offset
overflow_add-offset c =
    let pre = c.requires in
    let wide : c.values_in-width.result ≤ 65 = rw c.values_in-width.ensures (width_le _ _ _ _ (omega (arith, c.bytes-m.ensures, pre.range.bytes_high))) in
    omega (arith, going_few c.loop-q.invariant pre.range.bytes_high)

pub loop-q-preserved : goal.loop-q-preserved
loop-q-preserved c = going_more c.line_in-line.result c.values_in-width.result c.loop-q.invariant (omega arith) (length_front c.loop-q.mail c.played-next.new.mail c.of_many-len.result c.played-next.auto.mail) (c.line_in-line.ensures ∙ ap₂ {C = ℕ} (λ n m. line_in c.args.protocol n m) c.columns-n.ensures c.bytes-m.ensures) (c.values_in-width.ensures ∙ ap₂ {C = ℕ} (λ n m. values_in c.args.protocol n m (c.loop-q.q + 1)) c.columns-n.ensures c.bytes-m.ensures) c.played-next.ensures

pub returns : goal.returns
returns c = going_done c.loop-q.invariant (omega arith) (c.rounds_in-last.ensures ∙ ap (rounds_in c.args.protocol) c.columns-n.ensures)
