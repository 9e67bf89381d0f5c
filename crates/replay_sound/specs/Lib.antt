pub mod Stamped
pub mod Suited
