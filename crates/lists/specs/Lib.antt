-- Lists by an index function, rows of messages by column number, and counts of columns. Nothing here knows the protocol.
-- Lists: the definitions. Tests, Entries, Rows, Count: laws. Loops: the invariants of loops that fill, check or count.
pub mod Lists
pub mod Tests
pub mod Entries
pub mod Rows
pub mod Count
pub mod Loops
pub mod Library
