-- A column's state and an entry as bytes. Layout: the definitions. Entry: those of an entry. Writing: parts that are put one behind the other.
pub mod Layout
pub mod Entry
pub mod Writing
