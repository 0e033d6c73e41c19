-- What is delivered to a column in one round of a wall: document 01, "A whole wall".
-- Delivery: the definitions. Places: where the lines of the unsound columns lie in a sheet, for the loop that goes through them. Refusals: what is
-- refused, and what is not.
pub mod Delivery
pub mod Places
pub mod Refusals
