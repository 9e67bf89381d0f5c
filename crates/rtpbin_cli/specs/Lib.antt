pub mod Numbers
pub mod Words
pub mod Commands
pub mod Outcome
pub mod Steps
