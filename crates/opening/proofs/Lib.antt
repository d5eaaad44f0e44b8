pub mod Agreeing
pub mod Answering
pub mod Driving
pub mod Filling
pub mod Holding
pub mod Tabling
