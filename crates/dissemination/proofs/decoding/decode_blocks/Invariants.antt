-- `decoding::decode_blocks` meets its contract.
use Rattle.sizes.specs.Sizes.{blocks}
use Rattle.dissemination.proofs.Decoded.{Done}
use Rattle.dissemination.specs.Dissemination.{points_in}
use Rattle.dissemination.proofs.decoding.decode_blocks.Given as goal

abbrev pub invariant-loop-k : goal.invariant-loop-k
invariant-loop-k l = Done l.n l.m (points_in l.own l.mine (blocks l.n l.m) l.inbox) l.initial.coefficients l.coefficients l.k
