mod Closing
mod Connecting
mod Cycles
mod Ends
pub mod Marking
mod Getting
mod Marks
mod Numbering
mod Places
mod Pins
mod Placing
mod Renumbered
pub mod Rewired
mod Searching
