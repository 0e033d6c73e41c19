-- The definitions of one round by its kind: what is said, what is refused, and what a column becomes.
use Rattle.std.specs.Prelude.{List, ℕ, length}
use Rattle.lists.specs.Lists.{rows_of}
use Rattle.sizes.specs.Sizes.{refusal as refusal_of_sizes}
use Rattle.messages.specs.Messages.{said, refusal}
use Rattle.agreement.specs.declared.Stage.{Stage}
use Rattle.agreement.specs.declared.Column.{Column}
use Rattle.protocols.specs.declared.Kind.{Kind}
use Rattle.protocols.specs.Protocols.{width}
use Rattle.agreement.specs.Answers.{Answered}
use Rattle.agreement.specs.Rounds.{message, hears}
use Rattle.agreement.specs.Calls.{answered}

-- "one message to each column, itself included", "by column number": what column c says to all columns
unfoldable pub to_columns : Kind → Column → List ℕ
to_columns kind c = rows_of (λ j. said (message kind c j)) (width c.n c.m kind) c.n

-- "1: n outside 4 to 31. 2: m outside 1 to 32. 3: a column number outside 1 to n. 4: a slice .. whose length is not the one required"
unfoldable pub round_refusal : Kind → Column → ℕ → ℕ
round_refusal kind c len = refusal (refusal_of_sizes c.n c.m c.own) c.n (width c.n c.m kind) len

-- what column c has become after it listened; "A refusal gives its number and the state as it came"
unfoldable pub heard_in : Kind → Stage → Column → List ℕ → Answered
heard_in kind next c inbox = answered (round_refusal kind c (length inbox)) (hears kind next c inbox) c
