-- `exchange::agreements` meets its contract.
use Rattle.std.proofs.Common.{sym}
use Rattle.sizes.proofs.Refusals.{passed_on}
use Rattle.messages.proofs.Laws.{accepted as messages_accepted}
use Rattle.dispersal.specs.Dispersal.{agreements}
use Rattle.dispersal.proofs.exchange.agreements.Goals as goal

pub returns-in_err-refusal : goal.returns-in_err-refusal
returns-in_err-refusal c =
    let a = c.args in
    passed_on _ (agreements a.n a.m a.own a.bytes a.inbox.now) c.from_residual.result c.from_residual.ensures.1 c.in_err-refusal.ensures

pub flags-requires : goal.flags-requires
flags-requires c = let h = messages_accepted _ _ _ _ (sym c.in_ok-refusal.ensures) in (h.0, sym h.1)

pub returns : goal.returns
returns c = (c.in_ok-refusal.ensures, c.flags.ensures)
