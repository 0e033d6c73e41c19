-- A column's calls. What they are to answer is defined in `agreement`; Answers has the laws by which the code meets it.
pub mod Answers
