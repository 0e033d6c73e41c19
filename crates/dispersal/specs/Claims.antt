-- What Claims 3.4 to 3.6 of document 002 count on, as a statement. They are proved in proofs/.
use Rattle.std.specs.Prelude.{ℕ, ◌*◌, ◌≤◌}
use Rattle.sizes.specs.Sizes.{faults, degree}

-- "the count that lets at most two camps report needs 3d ≤ t"
abbrev pub TwoCampsAtMost : ℕ → Type 0
TwoCampsAtMost n = 3 * degree n ≤ faults n
