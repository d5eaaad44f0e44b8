pub mod Causes
pub mod Limit
