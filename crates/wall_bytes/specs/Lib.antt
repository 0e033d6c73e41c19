-- Whole walls and blocks for C and Rust.
-- Calls: the definitions. Rows: THE THEOREMS of the entries that are written, `rows_demand` and `rows_posted`. Refused: a refused call leaves the lent
-- slice as it was. Laws: for the code.
pub mod Calls
pub mod Laws
pub mod Refused
pub mod Rows
