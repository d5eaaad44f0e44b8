pub mod Faults
pub mod Books
pub mod Filed
pub mod Changes
pub mod Judging
pub mod Answers
pub mod Laws
