pub mod Faults
pub mod Fields
pub mod Forms
pub mod Laws
pub mod Lists
pub mod Reading
pub mod Says
pub mod Written
