pub mod Matching
pub mod Covering
