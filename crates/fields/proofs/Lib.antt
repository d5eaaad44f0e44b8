pub mod Back
pub mod Cutting
pub mod InPlace
pub mod Opening
pub mod Order
pub mod Reading
pub mod Refused
