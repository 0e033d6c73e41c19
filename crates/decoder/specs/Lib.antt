-- Decoding n points: document 01, "Rounds" 6, "the polynomial of degree at most d that meets at least n - t of them (a blank meets none),
-- or none". Decoder: the definitions. Exactly: that they say just that, as a statement. Answers, Windows, Places: what the code finds on its way, as
-- statements. Interpolation, Steps: laws of polynomials through points, and of one step of a function of the code.
pub mod Decoder
pub mod Interpolation
pub mod Exactly
pub mod Places
pub mod Answers
pub mod Windows
pub mod Steps
