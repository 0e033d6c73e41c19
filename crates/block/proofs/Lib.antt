-- Values: laws of a value. Apart: two different polynomials meet at few points. Algebra: sums and products.
pub mod Algebra
pub mod Apart
pub mod Values
