pub mod Updating
pub mod Editing
pub mod Judged
pub mod Lengths
pub mod Stopping
