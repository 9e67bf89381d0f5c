pub mod Words
pub mod Scanned
pub mod Outcome
pub mod Steps
