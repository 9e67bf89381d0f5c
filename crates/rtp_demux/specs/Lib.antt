pub mod Lanes
pub mod Types
