pub mod Passing
pub mod Accepting
