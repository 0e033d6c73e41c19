-- The starred worked values of document 01 and a few walls more, computed from the definitions.
-- Walls: the sheets, byte by byte. Worked: the values in one list (`Worked`), and that they are so (`worked`). Late: a wall that settles as late as it can.
pub mod Walls
pub mod Worked
pub mod Late
