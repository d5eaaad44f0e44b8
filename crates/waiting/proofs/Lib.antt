pub mod Draining
pub mod Words
