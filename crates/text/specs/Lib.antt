pub mod Text
pub mod Words
pub mod Refusals
pub mod Views
