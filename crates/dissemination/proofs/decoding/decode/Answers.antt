-- `decoding::decode` meets its contract.
use Rattle.std.proofs.Common.{Some, None, sym, arith}
use Rattle.sizes.proofs.Laws.{degree_le, accepted}
use Rattle.sizes.proofs.Refusals.{passed}
use Rattle.messages.proofs.Laws.{accepted as messages_accepted}
use Rattle.std.proofs.lemmas.Result.{IfOk-from_err}
use Rattle.dissemination.proofs.Decoded.{decodes_told, record_none, record_some}
use Rattle.dissemination.proofs.decoding.decode.Goals as goal

pub returns-in_err-refusal : goal.returns-in_err-refusal
returns-in_err-refusal c =
    let r = c.from_residual in
    ((passed _ r.result r.ensures.1 c.in_err-refusal.ensures).0, IfOk-from_err r.result _ r.ensures.0)

pub decode_blocks-blocks-requires : goal.decode_blocks-blocks-requires
decode_blocks-blocks-requires c = (messages_accepted _ _ _ _ (sym c.in_ok-refusal.ensures)).0

pub returns-in_default : goal.returns-in_default
returns-in_default c = let a = c.args in
    (c.in_ok-refusal.ensures, record_none a.n a.m _ (decodes_told a.n a.m a.own a.speaks a.kept _ _ a.inbox.now None c.silenced_unless-mine.ensures (rw c.in_default.is at c.decode_blocks-blocks.ensures)))

pub overflow_cast-size : goal.overflow_cast-size
overflow_cast-size c = record { fits = omega (arith, c.degree.ensures, degree_le c.args.n) }

pub overflow_add-size : goal.overflow_add-size
overflow_add-size c = record { fits = omega (arith, c.degree.ensures, degree_le c.args.n) }

pub returns : goal.returns
returns c = let a = c.args in
    let range = (accepted a.n a.m a.own (messages_accepted _ _ _ _ (sym c.in_ok-refusal.ensures)).0).range in (
      c.in_ok-refusal.ensures,
      record_some a.n a.m _ _ _ range (decodes_told a.n a.m a.own a.speaks a.kept _ _ a.inbox.now (Some _) c.silenced_unless-mine.ensures (rw c.in-Some.is at c.decode_blocks-blocks.ensures))
          (rw c.degree.ensures at c.joined.ensures),
    )
