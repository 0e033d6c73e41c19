-- Claims: Claims 3.4, 3.5 and 3.6. Graded: THE THEOREM, Theorem 3.3. Calls: it holds of what the calls give.
pub mod Calls
pub mod Claims
pub mod Graded
