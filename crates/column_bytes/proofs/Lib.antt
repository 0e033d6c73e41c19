-- Theorem: THE THEOREMS of every run of the calls, `bytes_demand`, `bytes_settled` and `bytes_posted`. Refused: a refused call leaves every lent slice as it
-- was. Laws: for the code.
pub mod Laws
pub mod Refused
pub mod Theorem
