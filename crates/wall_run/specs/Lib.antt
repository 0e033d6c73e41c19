-- A whole wall, in every protocol. Run: its definitions. Claim: THE THIRD DEMAND, ONE LAST VOTE and DEFINITION 3.10 of its entries, as statements. Its
-- proof: Columns (what becomes of one sound column), Played (the wall's calls are a run of lists of calls), Entries (what an entry shows of them), Theorem,
-- Settling and Posting (THE THEOREMS). For the code: Speaking (the mail while it is written), Answered (the state that a call leaves), Rounds (the loop over the rounds), Row (the entries on their way to the lent
-- row).
pub mod Run
pub mod Claim
pub mod Speaking
pub mod Answered
pub mod Rounds
pub mod Row
pub mod Columns
pub mod Played
pub mod Entries
pub mod Theorem
pub mod Settling
pub mod Posting
