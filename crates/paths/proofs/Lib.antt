pub mod Members
pub mod Sums
pub mod Listing
pub mod Edits
pub mod Reaching
pub mod Selective
