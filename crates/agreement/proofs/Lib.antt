-- What a column's word is worth, proved:
--   Theorem       THE THEOREM of an agreement, `third_demand`
--   Settling      THE THEOREM of the first sound king, `settles`
--   Posting       THE THEOREM of a posting, `posts`
--   Example       a run that meets the premises
--   Ranges, Heard, Readings                           the ranges of a column's parts; what a round of each kind does to a column; what is read in it
--   ByKind, Course, Courses                          which round is of which kind; a column's state after each round; those of all sound columns
--   Dispersal, Dissemination, Phases                 the rounds of the courses are runs of the building blocks, whose theorems are proved below
--   Agreeing, Decision                               the sound columns of an agreement end on one outcome
--   Taken, Binding                                   what the sound columns of a posting output meets Definition 3.10
--   Endings, Turns, Shapes, Walk, Runs               lists of calls, refused ones among them, come to these courses
--   Told          what a call for the entry of a column comes to
pub mod Agreeing
pub mod Binding
pub mod Course
pub mod Courses
pub mod Decision
pub mod Dispersal
pub mod Dissemination
pub mod Endings
pub mod Example
pub mod Heard
pub mod ByKind
pub mod Phases
pub mod Posting
pub mod Ranges
pub mod Readings
pub mod Runs
pub mod Settling
pub mod Shapes
pub mod Taken
pub mod Theorem
pub mod Told
pub mod Turns
pub mod Walk
