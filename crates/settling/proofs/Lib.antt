pub mod Folds
pub mod Shapes
pub mod Settling
