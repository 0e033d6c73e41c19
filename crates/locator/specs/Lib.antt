-- Where the wrong points are: an error locator by its values at the places (Welch and Berlekamp, in Koetter's form).
-- Locator: the definition, which the code computes. Held: its numbers. Steps, Located: why it locates (`locates`).
pub mod Locator
pub mod Held
pub mod Steps
pub mod Located
