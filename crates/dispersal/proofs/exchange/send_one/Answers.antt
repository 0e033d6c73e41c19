-- `exchange::send_one` meets its contract.
use Rattle.std.proofs.Common.{◌∙◌, arith}
use Rattle.sizes.proofs.Refusals.{there}
use Rattle.codeword.specs.Words.{across_accepted}
use Rattle.dispersal.specs.Laws.{paired_written, room_behind}
use Rattle.dispersal.proofs.exchange.send_one.Goals as goal

pub unwrap-requires : goal.unwrap-requires
unwrap-requires c = there _ (c.write.ensures.0 ∙ across_accepted _ _ _ _ _ c.requires.0 c.requires.2 (omega (arith, c.requires.3)))

pub unwrap-requires-2 : goal.unwrap-requires-2
unwrap-requires-2 c =
    let room = room_behind _ _ _ _ _ _ c.requires.0 c.requires.2 c.requires.3 c.write.ensures.1 in
    there _ (c.write-2.ensures.0 ∙ across_accepted _ _ _ _ _ c.requires.1 c.requires.2 room)

pub returns : goal.returns
returns c =
    paired_written _ _ _ _ _ _ _ _ c.requires.0 c.requires.1 c.requires.2 c.requires.3 c.write.ensures.1 c.write-2.ensures.1
