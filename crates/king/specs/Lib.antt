-- The king rule of Berman, Garay and Perry: document 01, "Rounds" 4. King: the definitions. Phase: what sound columns do in a phase, and that column k is
-- king of phase k.
pub mod King
pub mod Phase
