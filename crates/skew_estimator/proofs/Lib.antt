pub mod Least
pub mod Multiples
pub mod Stands
pub mod Steps
