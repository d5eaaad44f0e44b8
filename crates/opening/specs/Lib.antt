pub mod Forwards
pub mod Boards
pub mod Cells
pub mod Fills
pub mod Opens
pub mod Laws
