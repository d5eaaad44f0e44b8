pub mod Turns
pub mod Bits
