-- The listing of a wall: document 01, "A whole wall".
-- Listing: the definitions. Writing: one text after another in a lent slice. Laws: numbers and
-- words by their parts, and how long a listing is. Longest: how long an accepted sheet is, and that what stands behind need not be read.
-- Input: what a program prints of an input that it reads into a room, the definitions. Whole: that this is the listing of the whole input.
-- Number: the poster's number as a program is told it.
pub mod Listing
pub mod Writing
pub mod Laws
pub mod Longest
pub mod Input
pub mod Number
