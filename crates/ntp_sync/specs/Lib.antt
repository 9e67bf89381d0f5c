pub mod Found
pub mod Offsets
pub mod Answers
