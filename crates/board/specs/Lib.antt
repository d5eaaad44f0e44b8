pub mod Books
pub mod Steps
pub mod Runs
pub mod Laws
