-- Exactly: THE THEOREM, `exactly`. Search: the laws of the search that the definition is. Answers, Windows: why the answers of the code are those of the
-- definition.
pub mod Search
pub mod Exactly
pub mod Answers
pub mod Windows
