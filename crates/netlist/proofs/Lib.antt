pub mod Climbing
pub mod Firsts
pub mod Passes
pub mod Mentions
pub mod Looking
pub mod Numbering
pub mod Shapes
pub mod Bodies
pub mod Elements
pub mod Ascending
pub mod Stepwise
pub mod Within
pub mod Admitted
pub mod Accepting
pub mod Endings
pub mod Driving
pub mod Naming
pub mod Lawful
mod Joining
mod Meanings
