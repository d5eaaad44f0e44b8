pub mod Shapes
pub mod Tables
pub mod Webs
