pub mod Faults
pub mod Outlines
pub mod Tables
pub mod Laws
pub mod Example
pub mod Marks
