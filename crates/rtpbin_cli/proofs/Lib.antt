pub mod Forms
pub mod Sections
pub mod Scripts
pub mod Running
pub mod Ending
pub mod Digits
