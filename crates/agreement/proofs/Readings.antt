-- What is read in a round of each kind: which values, and of whom.
use Rattle.std.specs.Prelude.{◌≡◌, refl, cond, List, ℕ, ◌≤◌, eqb}
use Rattle.std.proofs.Common.{ap, arith}
use Rattle.lists.specs.Lists.{in_row}
use Rattle.field.specs.Field.{blank}
use Rattle.protocols.specs.declared.Kind.{Kind}
use Rattle.protocols.specs.declared.Kind.TheVariants.{Exchange, FirstReport, SecondReport, Votes, Proposals, King, Points, KeptPoints, Post}
use Rattle.protocols.specs.Protocols.{width, legal, alone}
use Rattle.messages.specs.Messages.{read_point, read_report, read_bit, read_byte, said, heard}
use Rattle.king.specs.King.{crowned}
use Rattle.agreement.specs.declared.Stage.{Stage}
use Rattle.agreement.specs.declared.Column.{Column}
use Rattle.agreement.specs.Parts.{with_stage, with_bytes, with_vote}
use Rattle.agreement.specs.Post.{posted_by, taken_record, posted}
use Rattle.agreement.specs.Rounds.{message, king_said, hears}

-- a value that is legal in a round of the kind as itself, and any other as blank
unfoldable pub reads : Kind → ℕ → ℕ
reads Exchange = read_point
reads FirstReport = read_report
reads SecondReport = read_report
reads Votes = read_bit
reads Proposals = read_bit
reads (King king) = read_bit
reads Points = read_point
reads KeptPoints = read_point
reads (Post s) = read_byte

pub reads_legal : (kind : Kind) (v : ℕ) → reads kind v ≡ cond (legal kind v) v blank
unfolding reads legal read_point read_report read_bit read_byte
reads_legal Exchange v = refl
reads_legal FirstReport v = refl
reads_legal SecondReport v = refl
reads_legal Votes v = refl
reads_legal Proposals v = refl
reads_legal (King king) v = refl
reads_legal Points v = refl
reads_legal KeptPoints v = refl
reads_legal (Post s) v = refl

-- where one column's message alone is read, nothing else of the slice counts
pub alone_read : (kind : Kind) (next : Stage) (c : Column) (inbox inbox' : List ℕ) → 1 ≤ alone kind
    → ((k : ℕ) → in_row (width c.n c.m kind) inbox (alone kind) k blank ≡ in_row (width c.n c.m kind) inbox' (alone kind) k blank) → hears kind next c inbox ≡ hears kind next c inbox'
unfolding alone width hears king_said heard posted posted_by
alone_read Exchange next c inbox inbox' l e = absurd (omega arith)
alone_read FirstReport next c inbox inbox' l e = absurd (omega arith)
alone_read SecondReport next c inbox inbox' l e = absurd (omega arith)
alone_read Votes next c inbox inbox' l e = absurd (omega arith)
alone_read Proposals next c inbox inbox' l e = absurd (omega arith)
alone_read (King king) next c inbox inbox' l e =
    ap (λ (word : ℕ). with_stage next (with_vote (crowned c.firm c.vote (cond (eqb king c.own) (said (message (King king) c c.own) 0) word)) c.firm c)) (e 0)
alone_read Points next c inbox inbox' l e = absurd (omega arith)
alone_read KeptPoints next c inbox inbox' l e = absurd (omega arith)
alone_read (Post s) next c inbox inbox' l e =
    ap (λ (sent : ℕ → ℕ). with_stage next (with_bytes (cond (eqb c.own s) c.bytes (taken_record c.m sent)) c)) (λ i k. e k i)
