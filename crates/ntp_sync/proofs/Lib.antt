pub mod Least
pub mod Order
pub mod Reports
mod Single
