-- Carried: THE THEOREM, that the claims hold of a machine if they do of one that it simulates. Lifted: the premises can be met on the one where they can
-- on the other.
pub mod Carried
pub mod Lifted
