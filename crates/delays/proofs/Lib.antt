pub mod Accepting
pub mod Judging
pub mod Marking
