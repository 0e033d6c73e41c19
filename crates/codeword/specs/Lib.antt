-- A record as a codeword: its values at a point, one for each block. Document 01, "Sizes of a wall" and "Rounds".
-- Codeword: the definitions. Apart: two different records meet at no more than d of n points. Places: m bytes in 32 places. Words: the values at all points at once.
pub mod Codeword
pub mod Apart
pub mod Places
pub mod Words
