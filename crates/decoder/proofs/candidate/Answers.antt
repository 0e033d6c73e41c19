-- `candidate` meets its contract.
use Rattle.std.proofs.Common.{ap, length-take-le, ◌∙◌, List, ℕ, take}
use Rattle.messages.specs.Messages.{from as at}
use Rattle.decoder.specs.Decoder.{coefficients, through as through_of}
use Rattle.decoder.specs.Places.{chain_take}
use Rattle.decoder.specs.Steps.{listed, take_map}
use Rattle.decoder.proofs.candidate.Goals as goal

pub returns : goal.returns
returns c =
    let a = c.args in
    let x = c.places-x in
    record {
      xs = take a.k (listed x.result);
      chain = chain_take _ a.k 1 (listed x.result) x.ensures;
      goes = record {
        size = length-take-le a.k (listed x.result) c.requires;
        is = c.through.ensures
            ∙ ap (λ (vs : List ℕ). coefficients (through_of (take a.k (listed x.result)) vs))
            (ap (λ (l : List ℕ). take a.k l) c.values_at.ensures ∙ take_map (at a.points.now) a.k (listed x.result));
      };
    }
