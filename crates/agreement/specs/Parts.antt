-- The definitions of a column with one part changed; all other parts stay as they are.
use Rattle.std.specs.Prelude.{Bool, List, ℕ}
use Rattle.agreement.specs.declared.Stage.{Stage}
use Rattle.agreement.specs.declared.Column.{Column}

abbrev pub with_stage : Stage → Column → Column
with_stage stage c =
    record { protocol = c.protocol; n = c.n; m = c.m; own = c.own; bytes = c.bytes; proposal = c.proposal; stage = stage; agreements = c.agreements; reports = c.reports; grade = c.grade; vote = c.vote; firm = c.firm; kept = c.kept }

abbrev pub with_bytes : List ℕ → Column → Column
with_bytes bytes c =
    record { protocol = c.protocol; n = c.n; m = c.m; own = c.own; bytes = bytes; proposal = c.proposal; stage = c.stage; agreements = c.agreements; reports = c.reports; grade = c.grade; vote = c.vote; firm = c.firm; kept = c.kept }

abbrev pub with_proposal : ℕ → Column → Column
with_proposal proposal c =
    record { protocol = c.protocol; n = c.n; m = c.m; own = c.own; bytes = c.bytes; proposal = proposal; stage = c.stage; agreements = c.agreements; reports = c.reports; grade = c.grade; vote = c.vote; firm = c.firm; kept = c.kept }

abbrev pub with_agreements : List Bool → Column → Column
with_agreements agreements c =
    record { protocol = c.protocol; n = c.n; m = c.m; own = c.own; bytes = c.bytes; proposal = c.proposal; stage = c.stage; agreements = agreements; reports = c.reports; grade = c.grade; vote = c.vote; firm = c.firm; kept = c.kept }

abbrev pub with_reports : List Bool → Column → Column
with_reports reports c =
    record { protocol = c.protocol; n = c.n; m = c.m; own = c.own; bytes = c.bytes; proposal = c.proposal; stage = c.stage; agreements = c.agreements; reports = reports; grade = c.grade; vote = c.vote; firm = c.firm; kept = c.kept }

abbrev pub with_grade : ℕ → Column → Column
with_grade grade c =
    record { protocol = c.protocol; n = c.n; m = c.m; own = c.own; bytes = c.bytes; proposal = c.proposal; stage = c.stage; agreements = c.agreements; reports = c.reports; grade = grade; vote = c.vote; firm = c.firm; kept = c.kept }

abbrev pub with_vote : ℕ → Bool → Column → Column
with_vote vote firm c =
    record { protocol = c.protocol; n = c.n; m = c.m; own = c.own; bytes = c.bytes; proposal = c.proposal; stage = c.stage; agreements = c.agreements; reports = c.reports; grade = c.grade; vote = vote; firm = firm; kept = c.kept }

abbrev pub with_kept : List ℕ → Column → Column
with_kept kept c =
    record { protocol = c.protocol; n = c.n; m = c.m; own = c.own; bytes = c.bytes; proposal = c.proposal; stage = c.stage; agreements = c.agreements; reports = c.reports; grade = c.grade; vote = c.vote; firm = c.firm; kept = kept }
