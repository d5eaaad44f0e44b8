pub mod Places
pub mod Wordwise
pub mod Linewise
