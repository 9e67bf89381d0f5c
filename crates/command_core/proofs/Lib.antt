pub mod Progress
pub mod Clocks
pub mod Scripts
