-- The calls for C and Rust, on bytes. Calls: the definitions. Machine: the calls as a machine.
pub mod Calls
pub mod Machine
