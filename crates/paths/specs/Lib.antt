pub mod Web
pub mod Listing
pub mod Sums
pub mod Edits
pub mod Reach
pub mod Theorems
pub mod Example
