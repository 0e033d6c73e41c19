-- Inverse: what is written is read back, and what reads as a state is written back. Parts: laws of parts that lie one after the other.
pub mod Inverse
pub mod Parts
