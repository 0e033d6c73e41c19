-- `refusal` meets its contract.
use Rattle.std.specs.Prelude.{◌≡◌, ℕ, Result, Ok, Err}
use Rattle.std.specs.Result.{result_and}
use Rattle.std.proofs.Common.{ap, sym, ◌∙◌, refl}
use Rattle.sizes.specs.declared.numbers.Refusal.{Refusal}
use Rattle.sizes.specs.Refusals.{number, number_in}
use Rattle.sizes.proofs.Refusals.{some}
use Rattle.messages.specs.Messages.{refusal as refusal_of}
use Rattle.messages.proofs.Laws.{refused_before}
use Rattle.delivery.specs.Delivery.{refusal}
use Rattle.delivery.proofs.refusal.Goals as goal

-- of two refusals the first is told
first : {A : Type 0} (n w len : ℕ) (r s : Result A Refusal) → number_in s ≡ refusal_of 0 n w len → number_in (result_and r s) ≡ refusal_of (number_in r) n w len
first n w len (Ok x) s e = e
first n w len (Err why) s e = sym (refused_before (number why) n w len (some why))

pub returns : goal.returns
unfolding refusal
returns c =
    ap number_in c.and.ensures ∙ first _ _ _ _ _ c.refusal-2.ensures
    ∙ ap (λ (why : ℕ). refusal_of why c.columns-n.result c.args.round.width c.args.len) c.refusal.ensures ∙ rw (c.bytes-m.ensures, c.columns-n.ensures) refl
