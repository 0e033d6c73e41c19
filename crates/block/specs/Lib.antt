-- Blocks of a record as polynomials: document 01, "Sizes of a wall". Block: the definitions. Value: a value from the last coefficient on, as the code goes.
pub mod Block
pub mod Value
