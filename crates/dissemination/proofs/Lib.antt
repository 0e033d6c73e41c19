-- Spread: THE THEOREM, Theorem 3.9. Calls: it holds of what the calls give. Laws, Kept, Decoded: what the calls use of the definitions.
pub mod Kept
pub mod Laws
pub mod Calls
pub mod Spread
pub mod Decoded
