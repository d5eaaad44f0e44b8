pub mod Rows
pub mod Settings
pub mod Views
pub mod Cover
