-- A column of a wall and what its word is worth, in every protocol.
-- What a reader must believe, in the order in which to read it:
--   Parts         a column's state with one part changed
--   Column        the state, fresh, and the ranges of its parts
--   Post          the record that a column takes from a poster
--   Rounds        what a column says in each round, and what it makes of what it hears
--   Answers       what a call to make a column, to speak or to listen comes to
--   Replies       what a call for the outcome comes to
--   Calls         the calls' answers, refused inputs included
--   Entries       what a wall's entry shows of a column
--   Machine       the calls as a machine: what a run of it is, and what is claimed of one, is defined in `machine`
pub mod Parts
pub mod Column
pub mod Post
pub mod Rounds
pub mod Answers
pub mod Replies
pub mod Calls
pub mod Entries
pub mod Machine
