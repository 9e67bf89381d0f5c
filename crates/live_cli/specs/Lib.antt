pub mod Words
pub mod Histories
pub mod Outcome
pub mod Steps
