-- The sizes of a wall: document 01, "Sizes of a wall" and "Refusals from the input".
-- Sizes: the definitions. Laws: what an accepted wall has, as statements. No other crate opens the definitions but to compute with numbers.
pub mod Sizes
pub mod Laws
pub mod Refusals
